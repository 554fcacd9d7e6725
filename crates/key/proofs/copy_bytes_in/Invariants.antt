-- The loop's invariant: the buffer is the one that came in with the first i bytes pasted in.
use Rattle.std.specs.Prelude.{◌≡◌}
use Rattle.base.specs.Kit.{length, paste}
use Rattle.key.proofs.copy_bytes_in.Given as goal

abbrev pub invariant-loop-i : goal.invariant-loop-i
invariant-loop-i l = (length l.buf ≡ length l.initial.buf) × (l.buf ≡ paste l.initial.buf l.at l.s l.i)
