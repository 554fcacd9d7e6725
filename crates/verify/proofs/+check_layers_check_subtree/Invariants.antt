-- What falls: 14 for each layer that may lie below, and in a subtree the internodes left on a path besides. Each loop's
-- invariant: what is left, from part i on, comes to the same as the whole, and the numbers stay small.
use Rattle.std.specs.Prelude.{◌≡◌, ◌+◌, ◌*◌, ◌-◌}
use Rattle.node.specs.Layout.{permutation_at, nkeys_at}
use Rattle.node.specs.Permuter.{size_of}
use Rattle.verify.specs.Check.{each, slot_c}
use Rattle.verify.specs.CodeCases.{sub_c, Bounded}
use Rattle.verify.proofs.Steps.{child_c}
use Rattle.verify.proofs.+check_layers_check_subtree.Given as goal

abbrev pub decreases-check_layers : goal.decreases-check_layers
decreases-check_layers l = l.below * 14

abbrev pub decreases-check_subtree : goal.decreases-check_subtree
decreases-check_subtree l = l.below * 14 + 1 + l.path

abbrev pub invariant-check_layers-loop-i : goal.invariant-check_layers-loop-i
invariant-check_layers-loop-i l =
    Bounded (15 * (31 - l.below) + l.i) l.p
    × (each (slot_c (sub_c l.image.bytes.now l.below) l.image.bytes.now (31 - l.below) l.at l.fn.ends.lo (l.fn.ends.top + 1)) l.i (size_of (permutation_at l.image.bytes.now l.at) - l.i) l.p
    ≡ each (slot_c (sub_c l.image.bytes.now l.below) l.image.bytes.now (31 - l.below) l.at l.fn.ends.lo (l.fn.ends.top + 1)) 0 (size_of (permutation_at l.image.bytes.now l.at)) l.fn.p)

abbrev pub invariant-check_subtree-loop-i : goal.invariant-check_subtree-loop-i
invariant-check_subtree-loop-i l =
    Bounded (15 * (31 - l.below)) l.p
    × (each (child_c (sub_c l.image.bytes.now l.below) l.image.bytes.now (31 - l.below) l.at l.fn.ends.lo (l.fn.ends.top + 1) (l.path - 1)) l.i (nkeys_at l.image.bytes.now l.at + 1 - l.i) l.p
    ≡ each (child_c (sub_c l.image.bytes.now l.below) l.image.bytes.now (31 - l.below) l.at l.fn.ends.lo (l.fn.ends.top + 1) (l.path - 1)) 0 (nkeys_at l.image.bytes.now l.at + 1) l.fn.p)
