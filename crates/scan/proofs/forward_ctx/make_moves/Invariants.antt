use Rattle.std.specs.Prelude.{◌-◌}
use Rattle.base.specs.Kit.{length}
use Rattle.scan.proofs.LoopLaws.{Midway}
use Rattle.scan.proofs.forward_ctx.make_moves.Given as goal

abbrev pub invariant-loop-moves : goal.invariant-loop-moves
invariant-loop-moves l =
    Midway l.whole l.fn.walk l.image l.end.kind l.end.key.now (record { ctx = l.c; buf = l.held.buf; stack = l.held.stack }) l.moves l.keys l.tested

abbrev pub decreases-loop-moves : goal.decreases-loop-moves
decreases-loop-moves l = length l.image - l.moves
