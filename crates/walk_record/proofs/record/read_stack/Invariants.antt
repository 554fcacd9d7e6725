-- The loop's invariant: what the turns left make of the stack is what all turns make of the empty one.
use Rattle.std.specs.Prelude.{◌≡◌, ◌-◌}
use Rattle.walk_record.proofs.Turns.{fill}
use Rattle.walk_record.proofs.record.read_stack.Given as goal

abbrev pub invariant-loop-i : goal.invariant-loop-i
invariant-loop-i l = fill l.numbers l.e-items l.i (31 - l.i) ≡ fill l.numbers l.initial.e-items 0 31
