-- The image that is built from a list of pairs (02 [2]): the shape of specs/Shape.antt, its places in post-order from byte 8 on, and the
-- bytes of its records as 01 lays them out.
use Rattle.std.specs.Prelude.{◌∷◌, ◌++◌, ◌+◌, ◌*◌, ◌/◌, ◌%◌, ◌-◌, ◌^◌}
use Rattle.base.specs.Kit.{List, [], map, flatten, ℕ, zero, suc, eqb, length, replicate}
use Rattle.base.specs.Pick.{pick}
use Rattle.layering.specs.Tree.{Fields, LeafHead, InternodeHead, Node, leaf, internode, beyond, Kids, last, more, Slots, none, value, layer}
use Rattle.layering.specs.Keys.{Pair}
use Rattle.layering.specs.Accepted.{room, end_n, end_k, end_s}
use Rattle.building.specs.Shape.{shape}

-- PLACES. "Records lie in post-order without gaps from byte 8 to the trailer": where the record of a subtree stands, and its first leaf,
-- if the subtree's records begin at `at`.
unfoldable pub stands_at : ℕ → Node → ℕ
stands_at at (leaf h s) = end_s at s
stands_at at (internode h k) = end_k at k
stands_at at beyond = 0

unfoldable mutual
  pub first_leaf_n : ℕ → Node → ℕ
  first_leaf_n at (leaf h s) = end_s at s
  first_leaf_n at (internode h k) = first_leaf_k at k
  first_leaf_n at beyond = 0

  pub first_leaf_k : ℕ → Kids → ℕ
  first_leaf_k at (last n) = first_leaf_n at n
  first_leaf_k at (more n x k) = first_leaf_n at n

unfoldable pub start_at : ℕ → Fields → Fields
start_at at s =
    record { ikey = s.ikey; keylenx = s.keylenx; live = s.live; value = s.value; start = pick (eqb s.keylenx 64) at 0; len = s.len; suffix = s.suffix }

unfoldable pub root_at : ℕ → Fields → Fields
root_at root s =
    record { ikey = s.ikey; keylenx = s.keylenx; live = s.live; value = root; start = s.start; len = s.len; suffix = s.suffix }

-- The subtree with its places, if its records begin at `at` and the leaf behind its last is at `next`.
unfoldable mutual
  pub placed_n : ℕ → ℕ → Node → Node
  placed_n at next (leaf h s) =
      leaf (record { offset = end_s at s; version = h.version; permutation = h.permutation; next = next }) (placed_s at s)
  placed_n at next (internode h k) =
      internode (record { offset = end_k at k; version = h.version; nkeys = h.nkeys }) (placed_k at next k)
  placed_n at next beyond = beyond

  pub placed_k : ℕ → ℕ → Kids → Kids
  placed_k at next (last n) = last (placed_n at next n)
  placed_k at next (more n x k) = more (placed_n at (first_leaf_k (end_n at n) k) n) x (placed_k (end_n at n) next k)

  pub placed_s : ℕ → Slots → Slots
  placed_s at none = none
  placed_s at (value s r) = value (start_at at s) (placed_s (at + room s) r)
  placed_s at (layer s n r) = layer (root_at (stands_at at n) s) (placed_n at 0 n) (placed_s (end_n at n) r)

-- BYTES. "Integers are little-endian": the low n bytes of x, the lowest first.
unfoldable pub le_bytes : ℕ → ℕ → List ℕ
le_bytes zero x = []
le_bytes (suc n) x = x % 256 ∷ le_bytes n (x / 256)

-- n words of w bytes: those of the list, and zero where it has no more.
unfoldable pub words : ℕ → ℕ → List ℕ → List ℕ
words w zero xs = []
words w (suc n) [] = le_bytes w 0 ++ words w n []
words w (suc n) (x ∷ xs) = le_bytes w x ++ words w n xs

-- What a leaf's slots say, in order; and the live mask, "bit s for slot s".
unfoldable pub fields_s : Slots → List Fields
fields_s none = []
fields_s (value s r) = s ∷ fields_s r
fields_s (layer s n r) = s ∷ fields_s r

unfoldable pub mask : List Fields → ℕ
mask [] = 0
mask (s ∷ l) = pick s.live 1 0 + 2 * mask l

-- "low 32 bits offset, high 32 bits length"
unfoldable pub suffix_word : Fields → ℕ
suffix_word s = s.start + 2 ^ 32 * s.len

-- "Leaf, 400 bytes: version u32 at 0; live mask u16 at 4; permutation u64 at 8; 15 ikeys u64 at 16; 15 `keylenx` bytes at 136; 15 value
-- words at 152; 15 suffix words at 272; next leaf u64 at 392."
unfoldable pub leaf_bytes : LeafHead → List Fields → List ℕ
leaf_bytes h l =
    flatten (
    le_bytes 4 h.version ∷ le_bytes 2 (mask l) ∷ replicate 2 0 ∷ le_bytes 8 h.permutation
    ∷ words 8 15 (map (λ (s : Fields). s.ikey) l) ∷ words 1 15 (map (λ (s : Fields). s.keylenx) l) ∷ replicate 1 0
    ∷ words 8 15 (map (λ (s : Fields). s.value) l) ∷ words 8 15 (map suffix_word l) ∷ le_bytes 8 h.next ∷ []
    )

-- "Internode, 256 bytes: version u32 at 0; key count u8 at 4; 15 ikeys at 8; 16 children u64 at 128."
unfoldable pub offset_n : Node → ℕ
offset_n (leaf h s) = h.offset
offset_n (internode h k) = h.offset
offset_n beyond = 0

unfoldable pub children_k : Kids → List ℕ
children_k (last n) = offset_n n ∷ []
children_k (more n x k) = offset_n n ∷ children_k k

unfoldable pub separators_k : Kids → List ℕ
separators_k (last n) = []
separators_k (more n x k) = x ∷ separators_k k

unfoldable pub internode_bytes : InternodeHead → Kids → List ℕ
internode_bytes h k =
    flatten (le_bytes 4 h.version ∷ le_bytes 1 h.nkeys ∷ replicate 3 0 ∷ words 8 15 (separators_k k) ∷ words 8 16 (children_k k) ∷ [])

-- "each suffix (padded to a multiple of 8)"
unfoldable pub suffix_bytes : Fields → List ℕ
suffix_bytes s = pick (eqb s.keylenx 64) (s.suffix ++ replicate (room s - length s.suffix) 0) []

-- "an internode's subtrees in child order, then it; for a leaf, in permutation order, each suffix .. or layer subtree, then the leaf"
unfoldable mutual
  pub bytes_n : Node → List ℕ
  bytes_n (leaf h s) = bytes_s s ++ leaf_bytes h (fields_s s)
  bytes_n (internode h k) = bytes_k k ++ internode_bytes h k
  bytes_n beyond = []

  pub bytes_k : Kids → List ℕ
  bytes_k (last n) = bytes_n n
  bytes_k (more n x k) = bytes_n n ++ bytes_k k

  pub bytes_s : Slots → List ℕ
  bytes_s none = []
  bytes_s (value s r) = suffix_bytes s ++ bytes_s r
  bytes_s (layer s n r) = bytes_n n ++ bytes_s r

-- "Trailer, the last 32 bytes, pointing back: root offset, key count, image length, edition (1), each u64."
unfoldable pub image_of : Node → ℕ → List ℕ
image_of n count =
    flatten (
    replicate 8 0 ∷ bytes_n n ∷ le_bytes 8 (offset_n n) ∷ le_bytes 8 count ∷ le_bytes 8 (length (bytes_n n) + 40) ∷ le_bytes 8 1 ∷ []
    )

-- THE TREE AND THE IMAGE of a list of pairs.
unfoldable pub tree_for : List Pair → Node
tree_for ps = placed_n 8 0 (shape ps)

unfoldable pub build : List Pair → List ℕ
build ps = image_of (tree_for ps) (length ps)
