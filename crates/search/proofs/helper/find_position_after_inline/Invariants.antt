use Rattle.std.specs.Prelude.{◌≡◌, ◌≤◌, ◌-◌}
use Rattle.node.specs.Layout.{permutation_at}
use Rattle.node.specs.Permuter.{size_of}
use Rattle.search.specs.Helper.{after_inline}
use Rattle.search.proofs.helper.find_position_after_inline.Given as goal

abbrev pub invariant-loop-i : goal.invariant-loop-i
invariant-loop-i l =
    (l.i ≤ l.size) × (after_inline l.start.s.leaf.image.now l.start.s.leaf.at l.k l.i (l.size - l.i) ≡ after_inline l.start.s.leaf.image.now l.start.s.leaf.at l.k l.initial.i (size_of (permutation_at l.start.s.leaf.image.now l.start.s.leaf.at) - l.initial.i))
