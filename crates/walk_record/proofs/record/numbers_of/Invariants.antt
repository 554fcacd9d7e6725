-- The loop's invariant: what the turns left make of the numbers is what all turns make of those before the stack.
use Rattle.std.specs.Prelude.{◌≡◌, ◌-◌}
use Rattle.walk_record.proofs.Turns.{spread}
use Rattle.walk_record.proofs.record.numbers_of.Given as goal

abbrev pub invariant-loop-i : goal.invariant-loop-i
invariant-loop-i l = spread l.n l.e-items l.i (31 - l.i) ≡ spread l.initial.n l.e-items 0 31
