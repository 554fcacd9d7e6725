-- A turn pastes one byte more.
use Rattle.std.specs.Prelude.{◌+◌, ◌<◌}
use Rattle.base.specs.Kit.{add-one, arith, length, length-set}
use Rattle.std.proofs.Math.Seq.{paste-suc}
use Rattle.key.proofs.copy_bytes_in.Goals as goal

pub loop-i-preserved : goal.loop-i-preserved
loop-i-preserved c =
    let h : c.args.at + c.loop-i.i < length c.args.buf.now = omega arith in (
      simp length-set c.loop-i.invariant.0,
      rw (c.loop-i.invariant.1, add-one) (paste-suc _ _ _ _ 0 h c.loop-i-test.true),
    )
