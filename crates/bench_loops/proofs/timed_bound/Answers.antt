-- The loop over rows: a turn counts one, and at the end all are counted.
use Rattle.std.specs.Prelude.{◌+◌}
use Rattle.std.specs.Slice.Iter.{chunks_exact_rest}
use Rattle.base.specs.Kit.{◌∙◌, div-le_self, arith, length}
use Rattle.bench_loops.proofs.Rows.{Rows, begins, counts-on, all-counted, no_rows}
use Rattle.bench_loops.proofs.timed_bound.Goals as goal
use Rattle.bench_loops.proofs.timed_bound.Goals.{After-from-count}

-- the turn's row is counted
turn : (c : After-from-count) → Rows c.args.width c.args.kind c.args.bound.now c.args.names.now (c.loop-name.count + c.from-count.result) (chunks_exact_rest c.next.new.self)
turn c =
    let args = c.args in
    let steps = c.in-Some.ensures.steps in
    rw c.from-count.ensures
    (counts-on args.width args.kind args.bound.now args.names.now _ _ _ _ c.loop-name.invariant.1 steps.1.0
    (steps.1.1 ∙ c.loop-name.invariant.0) (omega (arith, c.if-width-eq0.false)) c.contains.result c.contains.ensures)

pub returns-then-width-eq0 : goal.returns-then-width-eq0
returns-then-width-eq0 c =
    let args = c.args in
    no_rows args.width args.kind args.bound.now args.names.now _ c.if-width-eq0.true

pub loop-name-init : goal.loop-name-init
loop-name-init c =
    let made = c.chunks_exact-name-items.ensures in
    rw c.into_iter-name-iterator.ensures.into_iter_gives (made.size, begins _ _ _ _ _ made.rest)

pub overflow_add-count : goal.overflow_add-count
overflow_add-count c = omega (arith, (turn c).0, div-le_self (length c.args.names.now) c.args.width)

pub loop-name-preserved : goal.loop-name-preserved
loop-name-preserved c = (c.in-Some.ensures.steps.0 ∙ c.loop-name.invariant.0, turn c)

pub returns : goal.returns
returns c =
    let args = c.args in
    all-counted args.width args.kind args.bound.now args.names.now _ _ c.loop-name.invariant.1
    (rw (← c.loop-name.invariant.0) c.in-None.ensures.steps.1.0)
