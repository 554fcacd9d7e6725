-- THE ORDER OF CODE, in one layer: which groups a leaf takes, and that all of them can be written. Assumes of the pairs what LayerOk does.
use Rattle.std.specs.Prelude.{◌≡◌, ◌∷◌, ◌+◌, ◌-◌, ◌≤◌, ◌<◌}
use Rattle.base.specs.Kit.{refl, ap, ◌∙◌, List, [], map, ℕ, zero, suc, arith, leb, length, le-leb, lt-leb, length-map}
use Rattle.base.specs.Pick.{pick}
use Rattle.base.proofs.Choice.{pick_ind}
use Rattle.layering.specs.Tree.{Node, Slots, none}
use Rattle.layering.specs.Keys.{Pair, leaves_n}
use Rattle.layering.specs.Ascending.{All, Ascending}
use Rattle.building.specs.Shape.{group_slots, groups, size_s, join_s, fill, leaf_of, layer_over, leaves_of, layer_of}
use Rattle.building.specs.CodeOrder.{filled, left, leaves_behind, after, leaves_l, limit}
use Rattle.building.proofs.Plain.{PlainN, PlainS}
use Rattle.building.proofs.Fill.{Each, Few, fill-some, fill_leaves, fill-each, fill-sized, join_plain, Sized}
use Rattle.building.proofs.Levels.{root_leaves}
use Rattle.building.proofs.LeafByLeaf.{left-each}
use Rattle.building.specs.CodeGood.{Good}
use Rattle.building.proofs.Layers.{SlotsOk, pieces, leaves_of_lem, layer_ok}

-- WHAT A LEAF TAKES of the groups, one by one
module _ (r : ℕ) (g : Slots) (gs : List Slots) where
  pub fills : size_s g ≤ r → (filled r (g ∷ gs) ≡ join_s g (filled (r - size_s g) gs)) × (left r (g ∷ gs) ≡ left (r - size_s g) gs)
  unfolding filled left pick
  fills h = (rw (le-leb (size_s g) r h) refl, rw (le-leb (size_s g) r h) refl)

  pub stops : r < size_s g → (filled r (g ∷ gs) ≡ none) × (left r (g ∷ gs) ≡ g ∷ gs)
  unfolding filled left pick
  stops h = (rw (lt-leb (size_s g) r h) refl, rw (lt-leb (size_s g) r h) refl)

pub filled_plain : (m r : ℕ) (gs : List Slots) → Each (PlainS m) gs → PlainS m (filled r gs)
unfolding filled PlainN
filled_plain m r [] e = tt
filled_plain m r (g ∷ gs) e =
    pick_ind (PlainS m) (leb (size_s g) r) (λ t. join_plain m g (filled (r - size_s g) gs) e.0 (filled_plain m (r - size_s g) gs e.1)) (λ t. tt)

pub after-each : (P : Slots → Type 0) (k : ℕ) (gs : List Slots) → Each P gs → Each P (after k gs)
unfolding after
after-each P zero gs e = e
after-each P (suc k) gs e = after-each P k (left 15 gs) (left-each P 15 gs e)

-- ALL LEAVES can be written
leaves_plain : (m : ℕ) (l : List Slots) → Each (PlainS m) l → Each Few l → Each (PlainN m 0) (map leaf_of l)
unfolding PlainN leaf_of
leaves_plain m [] p f = tt
leaves_plain m (s ∷ l) p f = ((refl, refl, omega arith, f.0, p.0), leaves_plain m l p.1 f.1)

none_plain : (m : ℕ) → PlainS m none
unfolding PlainN
none_plain m = tt

sized-few : (l : List Slots) → Sized 15 l → Each Few l
sized-few [] z = tt
sized-few (s ∷ l) z = (z.0, z.1)

pub fill_plain : (m : ℕ) (gs : List Slots) → Each (PlainS m) gs → Each Few gs → Each (PlainN m 0) (map leaf_of (fill 15 gs))
fill_plain m gs p f =
    leaves_plain m (fill 15 gs) (fill-each (PlainS m) (none_plain m) (join_plain m) 15 gs p) (sized-few (fill 15 gs) (fill-sized 15 gs f))

pub behind_plain : (m : ℕ) (gs : List Slots) → Each (PlainS m) gs → Each Few gs → Each (PlainN m 0) (map leaf_of (leaves_behind gs))
unfolding leaves_behind
behind_plain m [] p f = tt
behind_plain m (g ∷ gs) p f = fill_plain m (g ∷ gs) p f

each_map : {A : Type 0} (P Q : A → Type 0) → ((x : A) → P x → Q x) → (l : List A) → Each P l → Each Q l
each_map P Q f [] e = tt
each_map P Q f (x ∷ l) e = (f x e.0, each_map P Q f l e.1)

-- A LAYER's groups, and its leaves
module _ (m depth : ℕ) (deep : depth + suc m ≡ 32) (ps : List Pair) where
  pub groups_plain : Ascending ps → All (Good (suc m) depth) ps → leaves_l (map (group_slots (layer_of m)) (groups ps)) ≤ limit
      → Each (PlainS m) (map (group_slots (layer_of m)) (groups ps)) × Each Few (map (group_slots (layer_of m)) (groups ps))
  groups_plain a g b =
      let p = pieces m depth [] deep (layer_of m) (λ l r w c e f. layer_ok m (depth + 1) r l (omega arith) w c e f) ps a g b in
      (each_map (SlotsOk m depth []) (PlainS m) (λ s k. k.0) (map (group_slots (layer_of m)) (groups ps)) p.ok, p.few)

pub layer_leaves : (m : ℕ) (ps : List Pair)
    → let gs : List Slots = map (group_slots (layer_of m)) (groups ps) in
    leaves_n (layer_of (suc m) ps) ≡ length (fill 15 gs) + leaves_l gs
unfolding layer_of layer_over leaves_of
layer_leaves m ps =
    let f : List Slots = map (group_slots (layer_of m)) (groups ps) in
    let l : List Slots = fill 15 f in
    let ns : List Node = map leaf_of l in
    let n : length ns ≡ length l = length-map l leaf_of in
    let w : 0 < length l = fill-some 15 f in
    root_leaves (length ns) ns (omega arith) (omega arith) ∙ leaves_of_lem l ∙ ap (λ (y : ℕ). length l + y) (fill_leaves 15 f)
