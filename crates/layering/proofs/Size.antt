-- The moves of a walk over an image that obeys 01's rules are fewer than its bytes: a leaf has 400 bytes and at most
-- fifteen slots, and each layer has a leaf.
use Rattle.std.specs.Prelude.{◌+◌, ◌*◌, ◌≤◌, ◌<◌}
use Rattle.base.specs.Kit.{List, ℕ, arith, length}
use Rattle.node.specs.Layout.{child_at, root_offset}
use Rattle.layering.specs.Tree.{Node, leaf, internode, beyond, Kids, last, more, Slots, none, value, layer, tree_of}
use Rattle.layering.specs.Keys.{leaves_n, leaves_k, leaves_s, values_n, values_k, values_s, layers_n, layers_k, layers_s}
use Rattle.layering.specs.Accepted.{room, end_n, end_k, end_s, ShortPathsN, ShortPathsK, ShortPathsS, Obeys}
use Rattle.layering.proofs.Held.{HeldN, HeldK, HeldS, held}

-- each leaf takes 400 bytes
mutual
  unfolding end_n leaves_n

  pub leaves_fit_n : (n : Node) (at : ℕ) → at + 400 * leaves_n n ≤ end_n at n
  leaves_fit_n (leaf h s) at = omega (arith, leaves_fit_s s at)
  leaves_fit_n (internode h k) at = omega (arith, leaves_fit_k k at)
  leaves_fit_n beyond at = omega arith

  pub leaves_fit_k : (k : Kids) (at : ℕ) → at + 400 * leaves_k k ≤ end_k at k
  leaves_fit_k (last n) at = leaves_fit_n n at
  leaves_fit_k (more n x k) at = omega (arith, leaves_fit_n n at, leaves_fit_k k (end_n at n))

  pub leaves_fit_s : (s : Slots) (at : ℕ) → at + 400 * leaves_s s ≤ end_s at s
  leaves_fit_s none at = omega arith
  leaves_fit_s (value s r) at = omega (arith, leaves_fit_s r (at + room s))
  leaves_fit_s (layer s n r) at = omega (arith, leaves_fit_n n at, leaves_fit_s r (end_n at n))

module _ (image : List ℕ) where
  mutual
    unfolding HeldN ShortPathsN leaves_n values_n layers_n

    pub few_n : (n : Node) (l : ℕ) → HeldN image l n → ShortPathsN n
        → (values_n n ≤ 15 * leaves_n n) × (layers_n n < leaves_n n)
    few_n (leaf h s) l q p = let f = few_s s l 0 q.2 p in (omega arith, omega arith)
    few_n (internode h k) l q p = few_k k l 0 q.2 p.1
    few_n beyond l q p = absurd p

    pub few_k : (k : Kids) (l i : ℕ) → HeldK image l i k → ShortPathsK k
        → (values_k k ≤ 15 * leaves_k k) × (layers_k k < leaves_k k)
    few_k (last n) l i q p = few_n n (child_at image l i) q.1 p
    few_k (more n x k) l i q p =
        let f = few_n n (child_at image l i) q.2 p.0 in
        let g = few_k k l (i + 1) q.3 p.1 in
        (omega arith, omega arith)

    pub few_s : (s : Slots) (l i : ℕ) → HeldS image l i s → ShortPathsS s
        → (values_s s + i ≤ 15 * leaves_s s + 15) × (layers_s s ≤ leaves_s s)
    few_s none l i q p = (omega arith, omega arith)
    few_s (value s r) l i q p = let f = few_s r l (i + 1) q.3 p in (omega arith, omega arith)
    few_s (layer s n r) l i q p =
        let f = few_n n s.value q.3 p.0 in
        let g = few_s r l (i + 1) q.4 p.1 in
        (omega arith, omega arith)

-- THE MOVES FIT
pub moves-fit : (image : List ℕ) → Obeys image
    → leaves_n (tree_of image) + values_n (tree_of image) + 4 * layers_n (tree_of image) + 2 ≤ length image
moves-fit image o =
    let f = few_n image (tree_of image) (root_offset image) (held image) o.paths in
    omega (arith, leaves_fit_n (tree_of image) 8, o.to_trailer, o.long)
