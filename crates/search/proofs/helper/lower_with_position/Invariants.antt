use Rattle.std.specs.Prelude.{◌≡◌, ◌≤◌, ◌-◌}
use Rattle.search.specs.Helper.{lower_from, lower_with_position}
use Rattle.search.proofs.helper.lower_with_position.Given as goal

abbrev pub invariant-loop-i : goal.invariant-loop-i
invariant-loop-i l = (l.i ≤ l.size) × (lower_from l.leaf.image.now l.leaf.at l.ikey l.i (l.size - l.i) ≡ lower_with_position l.leaf.image.now l.leaf.at l.ikey)
