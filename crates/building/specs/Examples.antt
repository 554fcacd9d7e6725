-- Worked examples: lists of pairs, and what is read off the images that are built from them.
use Rattle.std.specs.Prelude.{◌∷◌, ◌++◌, ◌+◌, ◌/◌, ◌%◌}
use Rattle.base.specs.Kit.{List, [], map, ℕ, zero, suc, length, replicate}
use Rattle.layering.specs.Tree.{Node, leaf, internode, beyond, Kids, last, more, Slots}
use Rattle.layering.specs.Keys.{Pair}
use Rattle.building.specs.Shape.{size_s, shape}
use Rattle.building.specs.Build.{fields_s, mask, build}

unfoldable pub pair : List ℕ → ℕ → Pair
pair key value = record { key = key; value = value }

-- "Tree A: one leaf, ""=1, "a"=7, "ab"=9, 440 bytes."
unfoldable pub pairs_a : List Pair
pairs_a = pair [] 1 ∷ pair (97 ∷ []) 7 ∷ pair (97 ∷ 98 ∷ []) 9 ∷ []

-- "Tree B: a root leaf whose one slot is a layer at "entrance", its leaf holding ".1"=4, ".2"=5; 840 bytes."
unfoldable pub entrance : List ℕ
entrance = 101 ∷ 110 ∷ 116 ∷ 114 ∷ 97 ∷ 110 ∷ 99 ∷ 101 ∷ []

unfoldable pub pairs_b : List Pair
pairs_b = pair (entrance ++ (46 ∷ 49 ∷ [])) 4 ∷ pair (entrance ++ (46 ∷ 50 ∷ [])) 5 ∷ []

-- One long key.
unfoldable pub one_long : List Pair
one_long = pair (entrance ++ (46 ∷ [])) 4 ∷ []

-- A key for each number: some bytes, and so many zero bytes behind them.
unfoldable pub zero_filled : List ℕ → List ℕ → List Pair
zero_filled key [] = []
zero_filled key (n ∷ ns) = pair (key ++ replicate n 0) n ∷ zero_filled key ns

-- Two ikeys with as many slots as an ikey can have, and one fewer: of the first, keys of 0 to 8 bytes and two long ones; of the second,
-- keys of 1 to 8 bytes and a long one.
unfoldable pub two_groups : List Pair
two_groups =
    zero_filled [] (0 ∷ 1 ∷ 2 ∷ 3 ∷ 4 ∷ 5 ∷ 6 ∷ 7 ∷ 8 ∷ 9 ∷ 10 ∷ []) ++ zero_filled (98 ∷ []) (0 ∷ 1 ∷ 2 ∷ 3 ∷ 4 ∷ 5 ∷ 6 ∷ 7 ∷ 9 ∷ [])

-- The keys of two bytes from i on, n of them.
unfoldable pub two_bytes : ℕ → ℕ → List Pair
two_bytes i zero = []
two_bytes i (suc n) = pair (i / 256 ∷ i % 256 ∷ []) i ∷ two_bytes (i + 1) n

-- The leaves of the root's layer, in order.
unfoldable mutual
  pub leaves_under : Node → List Slots
  leaves_under (leaf h s) = s ∷ []
  leaves_under (internode h k) = leaves_under_k k
  leaves_under beyond = []

  pub leaves_under_k : Kids → List Slots
  leaves_under_k (last n) = leaves_under n
  leaves_under_k (more n x k) = leaves_under n ++ leaves_under_k k

-- The image's length; of each of these leaves, how many slots it has, and its live mask.
pub record Figures : Type 0 where
  pub bytes : ℕ
  pub slots : List ℕ
  pub masks : List ℕ

unfoldable pub figures_of : List Pair → Figures
figures_of ps =
    let leaves = leaves_under (shape ps) in
    record { bytes = length (build ps); slots = map size_s leaves; masks = map (λ (s : Slots). mask (fields_s s)) leaves }

-- A list of pairs, and its figures.
pub record Example : Type 0 where
  pub pairs : List Pair
  pub says : Figures

unfoldable pub example : List Pair → ℕ → List ℕ → List ℕ → Example
example ps bytes slots masks = record { pairs = ps; says = record { bytes = bytes; slots = slots; masks = masks } }

-- Trees A and B; the empty sheet; one long key, which is no layer; two groups, the second of which does not go into the first one's leaf, and
-- the layer's bit is clear; 16 full leaves under one internode, and 17 leaves, of which the last has an internode to itself.
unfoldable pub table : List Example
table =
    example pairs_a 440 (3 ∷ []) (7 ∷ []) ∷ example pairs_b 840 (1 ∷ []) (0 ∷ []) ∷ example [] 440 (0 ∷ []) (0 ∷ [])
    ∷ example one_long 448 (1 ∷ []) (1 ∷ []) ∷ example two_groups 1504 (10 ∷ 9 ∷ []) (511 ∷ 511 ∷ [])
    ∷ example (two_bytes 0 240) 6696 (replicate 16 15) (replicate 16 32767)
    ∷ example (two_bytes 0 241) 7608 (replicate 16 15 ++ (1 ∷ [])) (replicate 16 32767 ++ (1 ∷ [])) ∷ []
