-- That an image holds a tree, place by place: what stands in the tree is what the image says there. Proved: an image
-- holds the tree that `tree_of` reads from it, by recursion on how it is read.
use Rattle.std.specs.Prelude.{◌≡◌, ◌+◌, ◌≤◌, ◌<◌}
use Rattle.base.specs.Kit.{refl, true, false, List, ℕ, zero, suc, arith, leb, leb-true, leb-false}
use Rattle.base.proofs.Choice.{pick_ind}
use Rattle.node.specs.Version.{is_leaf}
use Rattle.node.specs.Permuter.{size_of}
use Rattle.node.specs.Layout.{version_at, permutation_at, nkeys_at, separator_at, child_at, root_offset}
use Rattle.layering.specs.Tree.{Fields, Node, leaf, internode, beyond, Kids, last, more, Slots, none, value, layer, fields_at, slots_from, leaf_head, leaf_at, kids_from, internode_head, node_at, layer_at, tree_of}

module _ (image : List ℕ) where
  -- At l stands the subtree; at child i of the internode at l stand these children; at position i of the leaf at l stand
  -- these slots. Of `beyond` nothing is said.
  unfoldable mutual
    pub HeldN : ℕ → Node → Type 0
    HeldN l (leaf h s) = (is_leaf (version_at image l) ≡ true) × (h ≡ leaf_head image l) × HeldS l 0 s
    HeldN l (internode h k) = (is_leaf (version_at image l) ≡ false) × (h ≡ internode_head image l) × HeldK l 0 k
    HeldN l beyond = Unit {0}

    pub HeldK : ℕ → ℕ → Kids → Type 0
    HeldK l i (last n) = (i ≡ nkeys_at image l) × HeldN (child_at image l i) n
    HeldK l i (more n x k) =
        (i < nkeys_at image l) × (x ≡ separator_at image l i) × HeldN (child_at image l i) n × HeldK l (i + 1) k

    pub HeldS : ℕ → ℕ → Slots → Type 0
    HeldS l i none = i ≡ size_of (permutation_at image l)
    HeldS l i (value s r) =
        (i < size_of (permutation_at image l)) × (s ≡ fields_at image l i) × (s.keylenx < 128) × HeldS l (i + 1) r
    HeldS l i (layer s n r) =
        (i < size_of (permutation_at image l)) × (s ≡ fields_at image l i) × (128 ≤ s.keylenx) × HeldN s.value n
        × HeldS l (i + 1) r

  module _ (sub : ℕ → Node) (held-sub : (l : ℕ) → HeldN l (sub l)) where
    held-slots : (l i n : ℕ) → i + n ≡ size_of (permutation_at image l) → HeldS l i (slots_from sub image l i n)
    unfolding HeldN slots_from
    held-slots l i zero e = omega arith
    held-slots l i (suc n) e =
        let s : Fields = fields_at image l i in
        pick_ind (HeldS l i) (leb 128 s.keylenx)
        (λ t. (omega arith, refl, leb-true 128 s.keylenx t, held-sub s.value, held-slots l (i + 1) n (omega arith)))
        (λ t. (omega arith, refl, leb-false 128 s.keylenx t, held-slots l (i + 1) n (omega arith)))

    held-leaf : (l : ℕ) → is_leaf (version_at image l) ≡ true → HeldN l (leaf_at sub image l)
    unfolding HeldN leaf_at
    held-leaf l t = (t, refl, held-slots l 0 (size_of (permutation_at image l)) (omega arith))

  held_kids : (kid : ℕ → Node) → ((l : ℕ) → HeldN l (kid l)) → (l i n : ℕ) → i + n ≡ nkeys_at image l
      → HeldK l i (kids_from kid image l i n)
  unfolding HeldN kids_from
  held_kids kid h l i zero e = (omega arith, h (child_at image l i))
  held_kids kid h l i (suc n) e = (omega arith, refl, h (child_at image l i), held_kids kid h l (i + 1) n (omega arith))

  held-node : (sub : ℕ → Node) → ((l : ℕ) → HeldN l (sub l)) → (n l : ℕ) → HeldN l (node_at sub image n l)
  unfolding HeldN node_at
  held-node sub h zero l = pick_ind (HeldN l) (is_leaf (version_at image l)) (λ t. held-leaf sub h l t) (λ t. tt)
  held-node sub h (suc n) l =
      pick_ind (HeldN l) (is_leaf (version_at image l)) (λ t. held-leaf sub h l t)
      (λ t. (t, refl, held_kids (node_at sub image n) (λ c. held-node sub h n c) l 0 (nkeys_at image l) (omega arith)))

  held-layer : (n l : ℕ) → HeldN l (layer_at image n l)
  unfolding HeldN layer_at
  held-layer zero l = tt
  held-layer (suc n) l = held-node (layer_at image n) (λ c. held-layer n c) 12 l

  -- AN IMAGE HOLDS ITS TREE
  pub held : HeldN (root_offset image) (tree_of image)
  unfolding tree_of
  held = held-layer 32 (root_offset image)
