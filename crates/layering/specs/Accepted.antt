-- Which images are in order: 01's list "An accepted image obeys this", one definition for each of its points, and what
-- "The image" asks of single fields. All are about the tree that the image holds (specs/Tree.antt).
use Rattle.std.specs.Prelude.{◌⊎◌, ◌≡◌, ◌+◌, ◌*◌, ◌/◌, ◌%◌, ◌-◌, ◌^◌, ◌≤◌, ◌<◌}
use Rattle.base.specs.Kit.{true, List, ℕ, eqb, length, get_or}
use Rattle.base.specs.Pick.{pick}
use Rattle.key.specs.Ikey.{ikey_bytes}
use Rattle.node.specs.Version.{at_rest}
use Rattle.node.specs.Permuter.{slot_at}
use Rattle.node.specs.Layout.{key_count, stated_length, edition}
use Rattle.layering.specs.Tree.{Fields, Node, leaf, internode, beyond, Kids, last, more, Slots, none, value, layer, tree_of}
use Rattle.layering.specs.Keys.{lives_n}

-- POSITION. "Records lie in post-order without gaps from byte 8 to the trailer: an internode's subtrees in child order,
-- then it; for a leaf, in permutation order, each suffix (padded to a multiple of 8) or layer subtree, then the leaf."

-- The bytes that a value slot's suffix takes.
unfoldable pub room : Fields → ℕ
room s = pick (eqb s.keylenx 64) ((s.len + 7) / 8 * 8) 0

-- The place reached behind a subtree whose records begin at `at`.
unfoldable mutual
  pub end_n : ℕ → Node → ℕ
  end_n at (leaf h s) = end_s at s + 400
  end_n at (internode h k) = end_k at k + 256
  end_n at beyond = at

  pub end_k : ℕ → Kids → ℕ
  end_k at (last n) = end_n at n
  end_k at (more n x k) = end_k (end_n at n) k

  pub end_s : ℕ → Slots → ℕ
  end_s at none = at
  end_s at (value s r) = end_s (at + room s) r
  end_s at (layer s n r) = end_s (end_n at n) r

-- Every record and every suffix of it starts at the place reached.
unfoldable mutual
  pub InPostOrderN : ℕ → Node → Type 0
  InPostOrderN at (leaf h s) = InPostOrderS at s × (h.offset ≡ end_s at s)
  InPostOrderN at (internode h k) = InPostOrderK at k × (h.offset ≡ end_k at k)
  InPostOrderN at beyond = ⊥

  pub InPostOrderK : ℕ → Kids → Type 0
  InPostOrderK at (last n) = InPostOrderN at n
  InPostOrderK at (more n x k) = InPostOrderN at n × InPostOrderK (end_n at n) k

  pub InPostOrderS : ℕ → Slots → Type 0
  InPostOrderS at none = Unit {0}
  InPostOrderS at (value s r) = (s.keylenx ≡ 64 → s.start ≡ at) × InPostOrderS (at + room s) r
  InPostOrderS at (layer s n r) = InPostOrderN at n × InPostOrderS (end_n at n) r

-- PATHS. "A path in a layer has at most 12 internodes, each with at most 15 keys." (`beyond` is a thirteenth.)
unfoldable mutual
  pub ShortPathsN : Node → Type 0
  ShortPathsN (leaf h s) = ShortPathsS s
  ShortPathsN (internode h k) = (h.nkeys ≤ 15) × ShortPathsK k
  ShortPathsN beyond = ⊥

  pub ShortPathsK : Kids → Type 0
  ShortPathsK (last n) = ShortPathsN n
  ShortPathsK (more n x k) = ShortPathsN n × ShortPathsK k

  pub ShortPathsS : Slots → Type 0
  ShortPathsS none = Unit {0}
  ShortPathsS (value s r) = ShortPathsS r
  ShortPathsS (layer s n r) = ShortPathsN n × ShortPathsS r

-- SLOTS. "Slots ascend strictly by ikey, then by `keylenx`. One ikey has at most one slot of 64 or more." (That all slots
-- of one ikey are in one leaf is the last sentence of the next point.)
unfoldable pub Before : Fields → Fields → Type 0
Before s t = (s.ikey < t.ikey) ⊎ ((s.ikey ≡ t.ikey) × (s.keylenx < t.keylenx) × (s.keylenx < 64))

-- A slot stands before the first of those behind it.
unfoldable pub BeforeFirst : Fields → Slots → Type 0
BeforeFirst s none = Unit {0}
BeforeFirst s (value t r) = Before s t
BeforeFirst s (layer t n r) = Before s t

unfoldable mutual
  pub AscendN : Node → Type 0
  AscendN (leaf h s) = AscendS s
  AscendN (internode h k) = AscendK k
  AscendN beyond = ⊥

  pub AscendK : Kids → Type 0
  AscendK (last n) = AscendN n
  AscendK (more n x k) = AscendN n × AscendK k

  pub AscendS : Slots → Type 0
  AscendS none = Unit {0}
  AscendS (value s r) = BeforeFirst s r × AscendS r
  AscendS (layer s n r) = BeforeFirst s r × AscendN n × AscendS r

-- SEPARATORS. "Separators ascend strictly and lie strictly between their subtree's ends, 0 and 2^64 being a layer's. Child i
-- holds ikeys from separator i-1 up to but not at separator i." A subtree's ikeys lie from lo up to but not at hi.
unfoldable mutual
  pub InRangeN : ℕ → ℕ → Node → Type 0
  InRangeN lo hi (leaf h s) = InRangeS lo hi s
  InRangeN lo hi (internode h k) = InRangeK lo hi k
  InRangeN lo hi beyond = ⊥

  pub InRangeK : ℕ → ℕ → Kids → Type 0
  InRangeK lo hi (last n) = InRangeN lo hi n
  InRangeK lo hi (more n x k) = (lo < x) × (x < hi) × InRangeN lo x n × InRangeK x hi k

  pub InRangeS : ℕ → ℕ → Slots → Type 0
  InRangeS lo hi none = Unit {0}
  InRangeS lo hi (value s r) = (lo ≤ s.ikey) × (s.ikey < hi) × InRangeS lo hi r
  InRangeS lo hi (layer s n r) = (lo ≤ s.ikey) × (s.ikey < hi) × InRangeN 0 (2 ^ 64) n × InRangeS lo hi r

-- LINKS. "`next` links exactly the layer's leaves in order, 0 last."

-- The offset of a subtree's first leaf.
unfoldable mutual
  pub first_n : Node → ℕ
  first_n (leaf h s) = h.offset
  first_n (internode h k) = first_k k
  first_n beyond = 0

  pub first_k : Kids → ℕ
  first_k (last n) = first_n n
  first_k (more n x k) = first_n n

-- Each leaf of a subtree names the one behind it, and the last names `next`.
unfoldable mutual
  pub LinkedN : ℕ → Node → Type 0
  LinkedN next (leaf h s) = (h.next ≡ next) × LinkedS s
  LinkedN next (internode h k) = LinkedK next k
  LinkedN next beyond = ⊥

  pub LinkedK : ℕ → Kids → Type 0
  LinkedK next (last n) = LinkedN next n
  LinkedK next (more n x k) = LinkedN (first_k k) n × LinkedK next k

  pub LinkedS : Slots → Type 0
  LinkedS none = Unit {0}
  LinkedS (value s r) = LinkedS r
  LinkedS (layer s n r) = LinkedN 0 n × LinkedS r

-- FIELDS. What "The image" and the check's numbers 4 to 7 say of single fields.

-- "a permutation of 0 to 14": the fifteen fields, each below 15, no two equal.
unfoldable pub IsPermutation : ℕ → Type 0
IsPermutation p =
    ((i : ℕ) → i < 15 → (slot_at p (record { 0 = i })).0 < 15)
    × ((i j : ℕ) → i < j → j < 15 → (slot_at p (record { 0 = i })).0 ≡ (slot_at p (record { 0 = j })).0 → ⊥)

-- "`keylenx` 0 to 8 is a key that ends here", not 0 below the root; the ikey is "zero-filled".
pub record EndsHere (depth : ℕ) (s : Fields) : Type 0 where
  pub short : s.keylenx ≤ 8
  pub some : 0 < depth → 0 < s.keylenx
  pub filled : (i : ℕ) → s.keylenx ≤ i → get_or (ikey_bytes s.ikey) i 0 ≡ 0

-- "64 a key with a suffix of at least one byte". "Keys have at most 256 bytes. Layer depth d (root 0) starts at key byte 8 × d."
pub record HasSuffix (depth : ℕ) (s : Fields) : Type 0 where
  pub long : s.keylenx ≡ 64
  pub some : 0 < s.len
  pub fits : 8 * depth + 8 + s.len ≤ 256

unfoldable mutual
  pub FieldsN : ℕ → Node → Type 0
  FieldsN depth (leaf h s) = (at_rest h.version ≡ true) × IsPermutation h.permutation × FieldsS depth s
  FieldsN depth (internode h k) = (at_rest h.version ≡ true) × FieldsK depth k
  FieldsN depth beyond = ⊥

  pub FieldsK : ℕ → Kids → Type 0
  FieldsK depth (last n) = FieldsN depth n
  FieldsK depth (more n x k) = FieldsN depth n × FieldsK depth k

  pub FieldsS : ℕ → Slots → Type 0
  FieldsS depth none = Unit {0}
  FieldsS depth (value s r) = (EndsHere depth s ⊎ HasSuffix depth s) × FieldsS depth r
  FieldsS depth (layer s n r) = (depth < 31) × FieldsN (depth + 1) n × FieldsS depth r

-- AN ACCEPTED IMAGE obeys this. Its `count` is 02's [3], "the trailer's count is the number of live value slots", where 01 has all
-- used slots that are not layers.
pub record Obeys (image : List ℕ) : Type 0 where
  pub long : 440 ≤ length image
  pub short : length image ≤ 16777216
  pub whole : length image % 8 ≡ 0
  pub stated : stated_length image ≡ length image
  pub first-edition : edition image ≡ 1
  pub post-order : InPostOrderN 8 (tree_of image)
  pub to_trailer : end_n 8 (tree_of image) ≡ length image - 32
  pub paths : ShortPathsN (tree_of image)
  pub slots : AscendN (tree_of image)
  pub separators : InRangeN 0 (2 ^ 64) (tree_of image)
  pub links : LinkedN 0 (tree_of image)
  pub fields : FieldsN 0 (tree_of image)
  pub count : key_count image ≡ lives_n (tree_of image)
