use Rattle.std.specs.Prelude.{◌≡◌, ◌≤◌, ◌-◌}
use Rattle.node.specs.Layout.{permutation_at}
use Rattle.node.specs.Permuter.{size_of}
use Rattle.search.specs.Helper.{after_suffix}
use Rattle.search.proofs.helper.find_position_after_suffix.Given as goal

abbrev pub invariant-loop-i : goal.invariant-loop-i
invariant-loop-i l =
    (l.i ≤ l.size) × (after_suffix l.start.s.leaf.image.now l.start.s.leaf.at l.c.place l.c.buf.now l.i (l.size - l.i) ≡ after_suffix l.start.s.leaf.image.now l.start.s.leaf.at l.c.place l.c.buf.now l.initial.i (size_of (permutation_at l.start.s.leaf.image.now l.start.s.leaf.at) - l.initial.i))
