-- The invariant: what is left, from separator i on and above the one before it, comes to the same as the whole.
use Rattle.std.specs.Prelude.{◌≡◌, ◌+◌, ◌-◌}
use Rattle.verify.specs.Check.{separators_from}
use Rattle.verify.proofs.record.has_separators.Given as goal

abbrev pub invariant-loop-i : goal.invariant-loop-i
invariant-loop-i l = separators_from l.node.image.now l.node.at l.low (l.ends.top + 1) l.i (l.fn.n - l.i) ≡ separators_from l.node.image.now l.node.at l.fn.ends.lo (l.ends.top + 1) 0 l.fn.n
