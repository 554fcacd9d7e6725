-- The tree that an image holds: all that its records say, layer by layer (01, "The image"; the paper: a trie whose every
-- layer is a B+tree over eight key bytes). It is read from any bytes at all; specs/Accepted.antt says which are in order.
use Rattle.std.specs.Prelude.{◌+◌}
use Rattle.base.specs.Kit.{Bool, List, ℕ, zero, suc, leb}
use Rattle.base.specs.Pick.{pick}
use Rattle.key.specs.Part.{part}
use Rattle.node.specs.Version.{is_leaf}
use Rattle.node.specs.Permuter.{size_of, slot_at}
use Rattle.node.specs.Layout.{version_at, live_at, permutation_at, ikey_at, keylenx_at, value_at, suffix_at, next_at, nkeys_at, separator_at, child_at, root_offset}

-- What a leaf says of one used slot. `suffix` is the suffix's bytes, `start` and `len` their place.
pub record Fields : Type 0 where
  pub ikey : ℕ
  pub keylenx : ℕ
  pub live : Bool
  pub value : ℕ
  pub start : ℕ
  pub len : ℕ
  pub suffix : List ℕ

-- What a record says of itself: its offset and version; a leaf's permutation and next leaf, an internode's key count.
pub record LeafHead : Type 0 where
  pub offset : ℕ
  pub version : ℕ
  pub permutation : ℕ
  pub next : ℕ

pub record InternodeHead : Type 0 where
  pub offset : ℕ
  pub version : ℕ
  pub nkeys : ℕ

mutual
  -- A subtree of one layer. `beyond` stands for what lies past 01's limits and is not read: a thirteenth internode of a
  -- path, and a layer below depth 31.
  pub data Node : Type 0 where
    leaf : LeafHead → Slots → Node
    internode : InternodeHead → Kids → Node
    beyond : Node

  -- An internode's children in order, with the separators between them.
  pub data Kids : Type 0 where
    last : Node → Kids
    more : Node → ℕ → Kids → Kids

  -- A leaf's used slots in permutation order: "`keylenx` 0 to 8 is a key that ends here, 64 a key with a suffix of at
  -- least one byte, 128 or more a layer whose root is the value word".
  pub data Slots : Type 0 where
    none : Slots
    value : Fields → Slots → Slots
    layer : Fields → Node → Slots → Slots

-- The slot at position i of a leaf.
unfoldable pub fields_at : List ℕ → ℕ → ℕ → Fields
fields_at image at i =
    let s = slot_at (permutation_at image at) (record { 0 = i }) in
    record {
      ikey = ikey_at image at s;
      keylenx = keylenx_at image at s;
      live = live_at image at s;
      value = value_at image at s;
      start = (suffix_at image at s).start;
      len = (suffix_at image at s).len;
      suffix = part image (suffix_at image at s).start (suffix_at image at s).len;
    }

-- The slots from position i on, n of them; `sub` reads the layer at a root.
unfoldable pub slots_from : (ℕ → Node) → List ℕ → ℕ → ℕ → ℕ → Slots
slots_from sub image at i zero = none
slots_from sub image at i (suc n) =
    pick (leb 128 (fields_at image at i).keylenx)
    (layer (fields_at image at i) (sub (fields_at image at i).value) (slots_from sub image at (i + 1) n))
    (value (fields_at image at i) (slots_from sub image at (i + 1) n))

unfoldable pub leaf_head : List ℕ → ℕ → LeafHead
leaf_head image at = record { offset = at; version = version_at image at; permutation = permutation_at image at; next = next_at image at }

unfoldable pub leaf_at : (ℕ → Node) → List ℕ → ℕ → Node
leaf_at sub image at = leaf (leaf_head image at) (slots_from sub image at 0 (size_of (permutation_at image at)))

-- The children from child i on, n more behind it; `kid` reads the subtree at an offset.
unfoldable pub kids_from : (ℕ → Node) → List ℕ → ℕ → ℕ → ℕ → Kids
kids_from kid image at i zero = last (kid (child_at image at i))
kids_from kid image at i (suc n) = more (kid (child_at image at i)) (separator_at image at i) (kids_from kid image at (i + 1) n)

unfoldable pub internode_head : List ℕ → ℕ → InternodeHead
internode_head image at = record { offset = at; version = version_at image at; nkeys = nkeys_at image at }

-- The subtree at an offset, with at most n internodes on a path.
unfoldable pub node_at : (ℕ → Node) → List ℕ → ℕ → ℕ → Node
node_at sub image zero at = pick (is_leaf (version_at image at)) (leaf_at sub image at) beyond
node_at sub image (suc n) at =
    pick (is_leaf (version_at image at)) (leaf_at sub image at)
    (internode (internode_head image at) (kids_from (node_at sub image n) image at 0 (nkeys_at image at)))

-- The layer whose root is at an offset, with at most n layers on a way down ("A path in a layer has at most 12 internodes").
unfoldable pub layer_at : List ℕ → ℕ → ℕ → Node
layer_at image zero root = beyond
layer_at image (suc n) root = node_at (layer_at image n) image 12 root

-- The tree that an image holds. Keys have at most 256 bytes, eight to a layer: 32 layers.
unfoldable pub tree_of : List ℕ → Node
tree_of image = layer_at image 32 (root_offset image)
