-- The two functions of the cycle meet their contracts.
use Rattle.std.specs.Prelude.{◌≡◌, ◌+◌, ◌-◌, Ok}
use Rattle.base.specs.Kit.{ℕ, arith}
use Rattle.base.specs.Decline.{and_then}
use Rattle.std.proofs.lemmas.Grind.{common_steps}
use Rattle.node.proofs.PermuterLaws.{size_fits}
use Rattle.verify.specs.Check.{slot_c}
use Rattle.verify.specs.CodeCases.{sub_c, after_slot}
use Rattle.verify.proofs.Steps.{slot_is, sub_is, each_next}
use Rattle.verify.proofs.Bounds.{weaker}
use Rattle.verify.proofs.Cycle.{slot_deep, slot_kept, entered, child-kept, inner_told, separator_positive, parts}
use Rattle.verify.proofs.+check_layers_check_subtree.Goals as goal
use Rattle.verify.proofs.+check_layers_check_subtree.Goals.{check_layers-in-Passed, check_layers-in-Layer+in_ok-q-in-Layer+in_ok-end_layer-in-Layer, check_layers-Joined-found}

-- THE LAYERS of a leaf
-- what the slot comes to, by either arm: a value slot is passed, a layer is checked by its subtree
turned : (t : ℕ) (c : check_layers-Joined-found t)
    → let a = c.args in
    Ok c.match-found.p ≡ slot_c (sub_c a.image.bytes.now a.below) a.image.bytes.now (31 - a.below) a.at a.ends.lo (a.ends.top + 1) c.loop-i.i c.loop-i.p
unfolding and_then after_slot
turned t c =
    elim c.match-found.branch [
      | check_layers-in-Passed w ↦ grind (arith, slot_is)
      | check_layers-in-Layer+in_ok-q-in-Layer+in_ok-end_layer-in-Layer w ↦
          grind (arith, slot_is, sub_is, slot_deep)
    ]

pub check_layers-check_subtree-requires : goal.check_layers-check_subtree-requires
check_layers-check_subtree-requires t c =
    let few = size_fits c.permutation.result in
    let some = slot_deep _ _ _ _ _ _ _ _ (rw c.in-Layer.is at c.in_ok-found.ensures) in
    let inside = entered _ _ _ c.enter_layer-inside.ensures c.loop-i.invariant.0 in
    (omega (arith, c.decreases), (omega arith, weaker _ _ _ (omega (arith, c.size-i-end.ensures)) inside))

pub check_layers-returns-in_err-q-in-Layer : goal.check_layers-returns-in_err-q-in-Layer
unfolding and_then after_slot
check_layers-returns-in_err-q-in-Layer t c =
    let some = slot_deep _ _ _ _ _ _ _ _ (rw c.in-Layer.is at c.in_ok-found.ensures) in
    grind (arith, common_steps, parts)

pub check_layers-returns-in_err-end_layer-in-Layer : goal.check_layers-returns-in_err-end_layer-in-Layer
unfolding and_then after_slot
check_layers-returns-in_err-end_layer-in-Layer t c =
    let some = slot_deep _ _ _ _ _ _ _ _ (rw c.in-Layer.is at c.in_ok-found.ensures) in
    grind (arith, common_steps, parts)

pub check_layers-loop-i-preserved : goal.check_layers-loop-i-preserved
unfolding and_then
check_layers-loop-i-preserved t c =
    let e = turned t (goal.at.check_layers-loop-i-preserved t c).Joined-found in
    (slot_kept _ _ _ _ _ _ _ _ _ c.args.image.sized c.requires.leaf_told c.loop-i.invariant.0 e, grind (arith, each_next))

-- A SUBTREE
pub check_subtree-invariant_of-children : goal.check_subtree-invariant_of-children
check_subtree-invariant_of-children t c = record {
  separated = λ i. separator_positive _ _ _ _ _ i (inner_told _ _ _ _ _ _ (rw c.in-Internode.is at c.in_ok-kind.ensures));
}

pub check_subtree-loop-i-preserved : goal.check_subtree-loop-i-preserved
unfolding and_then
check_subtree-loop-i-preserved t c =
    let kept = child-kept _ _ _ _ _ _ _ _ _ c.args.image.sized (rw c.in-Ok.is at c.check_subtree.ensures) c.loop-i.invariant.0 in
    (kept, grind (arith, each_next))
