-- The keys of a tree, written down by the paper's layering; the list of an image's live pairs, in order; the three numbers
-- of a tree; and how many of its value slots are live. Every tool over accepted images is stated against `live_pairs`.
use Rattle.std.specs.Prelude.{◌∷◌, ◌++◌, ◌+◌}
use Rattle.base.specs.Kit.{List, [], ℕ, eqb, take}
use Rattle.base.specs.Pick.{pick}
use Rattle.key.specs.Ikey.{ikey_bytes}
use Rattle.layering.specs.Tree.{Fields, Node, leaf, internode, beyond, Kids, last, more, Slots, none, value, layer, tree_of}

-- A key with its value.
pub record Pair : Type 0 where
  pub key : List ℕ
  pub value : ℕ

-- What a value slot holds of its key: "its own bytes and suffix".
unfoldable pub own_bytes : Fields → List ℕ
own_bytes s = pick (eqb s.keylenx 64) (ikey_bytes s.ikey ++ s.suffix) (take s.keylenx (ikey_bytes s.ikey))

-- The live pairs of a subtree whose keys all begin with p: "A value slot (used, no layer) with its live bit clear is dead
-- and is passed over; any other has a live key: the ikeys of the layer slots above it, then its own bytes and suffix".
unfoldable mutual
  pub pairs_n : List ℕ → Node → List Pair
  pairs_n p (leaf h s) = pairs_s p s
  pairs_n p (internode h k) = pairs_k p k
  pairs_n p beyond = []

  pub pairs_k : List ℕ → Kids → List Pair
  pairs_k p (last n) = pairs_n p n
  pairs_k p (more n x k) = pairs_n p n ++ pairs_k p k

  pub pairs_s : List ℕ → Slots → List Pair
  pairs_s p none = []
  pairs_s p (value s r) = pick s.live (record { key = p ++ own_bytes s; value = s.value } ∷ pairs_s p r) (pairs_s p r)
  pairs_s p (layer s n r) = pairs_n (p ++ ikey_bytes s.ikey) n ++ pairs_s p r

-- THE LIVE PAIRS OF AN IMAGE, in the order of its slots.
unfoldable pub live_pairs : List ℕ → List Pair
live_pairs image = pairs_n [] (tree_of image)

-- "the numbers of leaves, value slots and sub-layers (used layer slots)".
unfoldable mutual
  pub leaves_n : Node → ℕ
  leaves_n (leaf h s) = 1 + leaves_s s
  leaves_n (internode h k) = leaves_k k
  leaves_n beyond = 0

  pub leaves_k : Kids → ℕ
  leaves_k (last n) = leaves_n n
  leaves_k (more n x k) = leaves_n n + leaves_k k

  pub leaves_s : Slots → ℕ
  leaves_s none = 0
  leaves_s (value s r) = leaves_s r
  leaves_s (layer s n r) = leaves_n n + leaves_s r

unfoldable mutual
  pub values_n : Node → ℕ
  values_n (leaf h s) = values_s s
  values_n (internode h k) = values_k k
  values_n beyond = 0

  pub values_k : Kids → ℕ
  values_k (last n) = values_n n
  values_k (more n x k) = values_n n + values_k k

  pub values_s : Slots → ℕ
  values_s none = 0
  values_s (value s r) = 1 + values_s r
  values_s (layer s n r) = values_n n + values_s r

unfoldable mutual
  pub layers_n : Node → ℕ
  layers_n (leaf h s) = layers_s s
  layers_n (internode h k) = layers_k k
  layers_n beyond = 0

  pub layers_k : Kids → ℕ
  layers_k (last n) = layers_n n
  layers_k (more n x k) = layers_n n + layers_k k

  pub layers_s : Slots → ℕ
  layers_s none = 0
  layers_s (value s r) = layers_s r
  layers_s (layer s n r) = 1 + layers_n n + layers_s r

-- 02 [3]: "the number of live value slots": used, no layer, and with its live bit set. No other bit of a mask counts.
unfoldable mutual
  pub lives_n : Node → ℕ
  lives_n (leaf h s) = lives_s s
  lives_n (internode h k) = lives_k k
  lives_n beyond = 0

  pub lives_k : Kids → ℕ
  lives_k (last n) = lives_n n
  lives_k (more n x k) = lives_n n + lives_k k

  pub lives_s : Slots → ℕ
  lives_s none = 0
  lives_s (value s r) = pick s.live 1 0 + lives_s r
  lives_s (layer s n r) = lives_n n + lives_s r
