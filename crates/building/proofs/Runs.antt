-- GROUP BY GROUP, the way that code goes: the first group is the pairs that have the first pair's ikey, the others are those of the rest;
-- and a group's slots are counted from the lengths of its keys. Assumes nothing.
use Rattle.std.specs.Prelude.{◌≡◌, ◌∷◌}
use Rattle.base.specs.Kit.{Bool, true, false, refl, ap, sym, ◌∙◌, List, [], ℕ, suc, leb, eqb, length, eqb-true}
use Rattle.base.specs.Pick.{pick}
use Rattle.key.specs.Ikey.{ikey_of}
use Rattle.layering.specs.Tree.{Node, value}
use Rattle.layering.specs.Keys.{Pair}
use Rattle.building.specs.Shape.{ends_here, long_slots, group_slots, onto, groups, size_s}
use Rattle.building.specs.CodeOrder.{run, behind_run}

pub groups-run : (x : Pair) (l : List Pair) → groups (x ∷ l) ≡ (x ∷ run (ikey_of x.key) l) ∷ groups (behind_run (ikey_of x.key) l)
unfolding groups run behind_run pick onto
groups-run x [] = refl
groups-run x (y ∷ l) = go (eqb (ikey_of x.key) (ikey_of y.key)) refl (groups-run y l)
  where
    go : (t : Bool) → eqb (ikey_of x.key) (ikey_of y.key) ≡ t
        → groups (y ∷ l) ≡ (y ∷ run (ikey_of y.key) l) ∷ groups (behind_run (ikey_of y.key) l)
        → pick t (onto x (groups (y ∷ l))) ((x ∷ []) ∷ groups (y ∷ l))
        ≡ (x ∷ pick t (y ∷ run (ikey_of x.key) l) []) ∷ groups (pick t (behind_run (ikey_of x.key) l) (y ∷ l))
    go true e h =
        ap (onto x) h
        ∙ ap (λ (k : ℕ). (x ∷ y ∷ run k l) ∷ groups (behind_run k l)) (sym (eqb-true (ikey_of x.key) (ikey_of y.key) e))
    go false e h = refl

-- How many slots a group wants.
unfoldable pub slot_count : List Pair → ℕ
slot_count [] = 0
slot_count (x ∷ l) = let n = suc (slot_count l) in pick (leb (length x.key) 8) n 1

pub slots-counted : (sub : List Pair → Node) (g : List Pair) → size_s (group_slots sub g) ≡ slot_count g
unfolding group_slots slot_count size_s pick long_slots
slots-counted sub [] = refl
slots-counted sub (x ∷ l) = go (leb (length x.key) 8) l (slots-counted sub l)
  where
    go : (t : Bool) (l : List Pair) → size_s (group_slots sub l) ≡ slot_count l
        → size_s (pick t (value (ends_here x) (group_slots sub l)) (long_slots sub (x ∷ l))) ≡ pick t (suc (slot_count l)) 1
    go true l h = ap suc h
    go false [] h = refl
    go false (y ∷ l) h = refl
