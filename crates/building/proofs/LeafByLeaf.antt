-- LEAF BY LEAF. Filling leaves, the way that code goes: the groups that fit the leaf at hand, and then the leaves of the groups that are
-- left. Assumes that no group has more than fifteen slots.
use Rattle.std.specs.Prelude.{◌≡◌, ◌∷◌, ◌-◌}
use Rattle.base.specs.Kit.{Bool, true, false, refl, ap, sym, ◌∙◌, List, [], ℕ, zero, suc, leb, drop, drop-nil, le-leb}
use Rattle.base.specs.Pick.{pick}
use Rattle.base.proofs.Choice.{pick_ind}
use Rattle.layering.specs.Tree.{Slots, none}
use Rattle.building.specs.Shape.{size_s, join_s, onto_s, fill}
use Rattle.building.specs.CodeOrder.{filled, left, leaves_behind, after}
use Rattle.building.proofs.Fill.{Each, Few}

pub leaf_by-leaf : (room : ℕ) (gs : List Slots) → Each Few gs → fill room gs ≡ filled room gs ∷ leaves_behind (left room gs)
unfolding fill filled left leaves_behind pick onto_s
leaf_by-leaf room [] e = refl
leaf_by-leaf room (g ∷ gs) e = go (leb (size_s g) room) (leaf_by-leaf (room - size_s g) gs e.1)
  where
    go : (t : Bool) → fill (room - size_s g) gs ≡ filled (room - size_s g) gs ∷ leaves_behind (left (room - size_s g) gs)
        → pick t (onto_s g (fill (pick t room 15 - size_s g) gs)) (none ∷ onto_s g (fill (pick t room 15 - size_s g) gs))
        ≡ pick t (join_s g (filled (room - size_s g) gs)) none ∷ leaves_behind (pick t (left (room - size_s g) gs) (g ∷ gs))
    go true h = ap (onto_s g) h
    go false h = rw (le-leb (size_s g) 15 e.0) refl

pub left-each : (P : Slots → Type 0) (r : ℕ) (gs : List Slots) → Each P gs → Each P (left r gs)
unfolding left
left-each P r [] e = tt
left-each P r (g ∷ gs) e = pick_ind (Each P) (leb (size_s g) r) (λ t. left-each P (r - size_s g) gs e.1) (λ t. e)

pub after_drops : (k : ℕ) (gs : List Slots) → Each Few gs → leaves_behind (after k gs) ≡ drop k (leaves_behind gs)
unfolding after leaves_behind left
after_drops zero gs e = refl
after_drops (suc k) [] e = after_drops k [] tt ∙ drop-nil {A = Slots} k
after_drops (suc k) (g ∷ gs) e =
    after_drops k (left 15 (g ∷ gs)) (left-each Few 15 (g ∷ gs) e) ∙ ap (drop (suc k)) (sym (leaf_by-leaf 15 (g ∷ gs) e))
