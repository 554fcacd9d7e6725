-- STATION LINES LEFT behind some leaves, and the leaves that they make. Assumes that the leaves are few enough.
use Rattle.std.specs.Prelude.{◌≡◌, ◌∷◌, ◌+◌, ◌-◌, ◌≤◌, ◌<◌}
use Rattle.base.specs.Kit.{refl, ap, ◌∙◌, List, [], map, ℕ, zero, suc, arith, length, drop, length-map}
use Rattle.layering.specs.Tree.{Slots}
use Rattle.layering.specs.Keys.{Pair}
use Rattle.building.specs.Shape.{leaf_of, groups, group_slots, layer_of}
use Rattle.building.specs.CodeOrder.{leaves_l, limit, filled, left, leaves_behind, after, head_n, tower}
use Rattle.building.proofs.Plain.{PlainN, PlainS}
use Rattle.building.proofs.Fill.{Each, Few}
use Rattle.building.proofs.LeafByLeaf.{leaf_by-leaf, after_drops}
use Rattle.building.proofs.Order.{groups_plain, behind_plain, filled_plain}
use Rattle.groups.specs.declared.LayerLines.{LayerLines}
use Rattle.groups.specs.CodeGroups.{lower, lowered, lines_at, slots_at}
use Rattle.groups.specs.CodeLines.{slots_in}
use Rattle.groups.proofs.GroupLaws.{groups_of}
use Rattle.reading.specs.Pairs.{pairs_in}
use Rattle.layers_out.specs.CodeCycle.{leaf_at, leaves_at, Rest}

-- the groups of the lines can be written, and so can the leaves
module _ (l : LayerLines) (few : leaves_l (slots_in l) ≤ limit) where
  pub given_plain : Each (PlainS l.below) (slots_in l) × Each Few (slots_in l)
  unfolding slots_at
  given_plain =
      groups_plain l.below (31 - l.below) (omega (arith, l.fit.deep)) (lines_at l.sheet.now (31 - l.below) l.line l.left) l.fit.ascend l.fit.good few

  pub filled_ok : (r : ℕ) → PlainS l.below (filled r (slots_in l))
  filled_ok r = filled_plain l.below r (slots_in l) given_plain.0

  pub leaves_ok : Each (PlainN l.below 0) (leaves_at l)
  leaves_ok = behind_plain l.below (slots_in l) given_plain.0 given_plain.1

-- K LEAVES ON
pub after-nil : (k : ℕ) → after k [] ≡ []
unfolding after left
after-nil zero = refl
after-nil (suc k) = after-nil k

pub after-after : (a b : ℕ) (gs : List Slots) → after b (after a gs) ≡ after (a + b) gs
unfolding after
after-after zero b gs = let e : 0 + b ≡ b = omega arith in rw e refl
after-after (suc a) b gs = let e : suc a + b ≡ suc (a + b) = omega arith in rw e (after-after a b (left 15 gs))

map-drop : (k : ℕ) (l : List Slots) → map leaf_of (drop k l) ≡ drop k (map leaf_of l)
map-drop zero l = refl
map-drop (suc k) [] = refl
map-drop (suc k) (x ∷ l) = map-drop k l

pub leaves_after : (k : ℕ) (l m : LayerLines) → leaves_l (slots_in l) ≤ limit → Rest k l m → leaves_at m ≡ drop k (leaves_at l)
leaves_after k l m few r =
    ap (λ (gs : List Slots). map leaf_of (leaves_behind gs)) r.slots
    ∙ ap (map leaf_of) (after_drops k (slots_in l) (given_plain l few).1)
    ∙ map-drop k (leaves_behind (slots_in l))

pub rest-rest : (a b : ℕ) (l m n : LayerLines) → Rest a l m → Rest b m n → Rest (a + b) l n
rest-rest a b l m n r q =
    record { below = q.below ∙ r.below; slots = q.slots ∙ ap (after b) r.slots ∙ after-after a b (slots_in l) }

-- THE FIRST LEAF of lines that are left
some_leaves : (gs : List Slots) → 0 < length gs → Each Few gs → map leaf_of (leaves_behind gs) ≡ leaf_of (filled 15 gs) ∷ map leaf_of (leaves_behind (left 15 gs))
unfolding leaves_behind
some_leaves [] h f = absurd (omega arith)
some_leaves (g ∷ gs) h f = ap (map leaf_of) (leaf_by-leaf 15 (g ∷ gs) f)

module _ (l : LayerLines) (few : leaves_l (slots_in l) ≤ limit) (h : 0 < length (slots_in l)) where
  pub leaves-some : 0 < length (leaves_at l)
  leaves-some = rw (some_leaves (slots_in l) h (given_plain l few).1) (omega arith)

  pub first_leaf : tower 0 (leaves_at l) ≡ leaf_at l
  unfolding tower head_n
  first_leaf = ap head_n (some_leaves (slots_in l) h (given_plain l few).1)

-- no lines, no groups
pub no-slots : (l : LayerLines) → l.left ≡ 0 → slots_in l ≡ []
unfolding slots_at lines_at lowered pairs_in groups
no-slots l e = rw e refl

-- some lines, some groups
map-some : {A B : Type 0} (f : A → B) (l : List A) → 0 < length l → 0 < length (map f l)
map-some f l h = omega (arith, length-map l f)

pub some-slots : (l : LayerLines) → 0 < l.left → 0 < length (slots_in l)
unfolding slots_at lines_at lowered
some-slots l h =
    let ps : List Pair = lines_at l.sheet.now (31 - l.below) l.line l.left in
    let n : length ps ≡ l.left = length-map (pairs_in l.left (drop l.line l.sheet.now)) (lower (31 - l.below)) ∙ l.fit.lines.whole in
    map-some (group_slots (layer_of l.below)) (groups ps) (rw (groups_of ps (omega arith)) (omega arith))
