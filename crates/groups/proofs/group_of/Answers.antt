-- `groups::group_of` meets its contract.
use Rattle.base.specs.Kit.{arith}
use Rattle.groups.proofs.Found.{so_far_none, so_far_next, group_cut, grown_one}
use Rattle.groups.proofs.group_of.Goals as goal

pub loop-init : goal.loop-init
loop-init c = (omega arith, so_far_none _ _ _ _ _ c.args.lines.fit)

pub loop-preserved : goal.loop-preserved
loop-preserved c =
    let e = c.grown-g.ensures in
    rw e (
      omega (arith, grown_one c.loop.g c.lowered_at-r.result.len c.lowered_at-r.result.next),
      so_far_next _ _ _ _ _ c.loop.g c.lowered_at-r.result c.lowered_at-r.ensures c.if-r-first.false (omega arith) c.loop.invariant.1,
    )

pub returns-then-r-first : goal.returns-then-r-first
returns-then-r-first c =
    group_cut _ _ _ _ c.requires
    c.lowered_at-first.result c.lowered_at-first.ensures
    c.loop.g c.loop.invariant.1
    c.lowered_at-r.result c.lowered_at-r.ensures (omega arith) c.if-r-first.true
