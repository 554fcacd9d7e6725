-- The shape of the tree that is built from a list of pairs (02 [2]: "The shape is fixed"). It is a tree of layering/specs/Tree.antt in
-- which all places (a record's offset, a leaf's `next`, a suffix's start, a layer's root) are still 0; specs/Build.antt sets them.
use Rattle.std.specs.Prelude.{◌∷◌, ◌+◌, ◌-◌, ◌^◌}
use Rattle.base.specs.Kit.{true, false, List, [], map, ℕ, zero, suc, leb, eqb, length, take, drop}
use Rattle.base.specs.Pick.{pick}
use Rattle.key.specs.Ikey.{ikey_of}
use Rattle.layering.specs.Tree.{Fields, Node, leaf, internode, beyond, Kids, last, more, Slots, none, value, layer}
use Rattle.layering.specs.Keys.{Pair}

-- SLOTS. A key that ends in this layer; "one long key of an ikey becomes a suffix, two or more a layer"; "a layer's `keylenx` is 128";
-- "Value slots are live; every other bit not fixed here, a layer's live bit .. included, is zero".
unfoldable pub ends_here : Pair → Fields
ends_here x =
    record { ikey = ikey_of x.key; keylenx = length x.key; live = true; value = x.value; start = 0; len = 0; suffix = [] }

unfoldable pub has_suffix : Pair → Fields
has_suffix x =
    record { ikey = ikey_of x.key; keylenx = 64; live = true; value = x.value; start = 0; len = length (drop 8 x.key); suffix = drop 8 x.key }

unfoldable pub has_layer : Pair → Fields
has_layer x =
    record { ikey = ikey_of x.key; keylenx = 128; live = false; value = 0; start = 0; len = 0; suffix = [] }

-- A pair as the layer below has it: without the eight bytes of the ikey.
unfoldable pub below : Pair → Pair
below x = record { key = drop 8 x.key; value = x.value }

-- The slots of the long keys of one ikey, and of all pairs of one ikey; `sub` makes the layer of some pairs.
unfoldable pub long_slots : (List Pair → Node) → List Pair → Slots
long_slots sub [] = none
long_slots sub (x ∷ []) = value (has_suffix x) none
long_slots sub (x ∷ y ∷ l) = layer (has_layer x) (sub (map below (x ∷ y ∷ l))) none

unfoldable pub group_slots : (List Pair → Node) → List Pair → Slots
group_slots sub [] = none
group_slots sub (x ∷ l) =
    let short = value (ends_here x) (group_slots sub l) in
    let long = long_slots sub (x ∷ l) in
    pick (leb (length x.key) 8) short long

-- GROUPS. The pairs of one ikey stand together: neighbours with one ikey are one group.
unfoldable pub onto : {A : Type 0} → A → List (List A) → List (List A)
onto a [] = (a ∷ []) ∷ []
onto a (l ∷ ls) = (a ∷ l) ∷ ls

unfoldable pub groups : List Pair → List (List Pair)
groups [] = []
groups (x ∷ []) = (x ∷ []) ∷ []
groups (x ∷ y ∷ l) =
    let rest = groups (y ∷ l) in
    pick (eqb (ikey_of x.key) (ikey_of y.key)) (onto x rest) ((x ∷ []) ∷ rest)

-- LEAVES. "whole ikey groups go into a leaf while fifteen slots hold them"; "an empty sheet is one empty leaf". The slots of the groups
-- gs, leaf by leaf, where the first of these leaves has room for some more slots.
unfoldable pub size_s : Slots → ℕ
size_s none = 0
size_s (value s r) = suc (size_s r)
size_s (layer s n r) = suc (size_s r)

unfoldable pub join_s : Slots → Slots → Slots
join_s none t = t
join_s (value s r) t = value s (join_s r t)
join_s (layer s n r) t = layer s n (join_s r t)

unfoldable pub onto_s : Slots → List Slots → List Slots
onto_s g [] = g ∷ []
onto_s g (s ∷ ss) = join_s g s ∷ ss

unfoldable pub fill : ℕ → List Slots → List Slots
fill room [] = none ∷ []
fill room (g ∷ gs) =
    let fits = leb (size_s g) room in
    let rest = onto_s g (fill (pick fits room 15 - size_s g) gs) in
    pick fits rest (none ∷ rest)

-- "Slots fill from 0 and every permutation is the identity"; "version bits but 31 are clear".
unfoldable pub identity : ℕ
identity = 0xedcba98765432100

unfoldable pub leaf_of : Slots → Node
leaf_of s = leaf (record { offset = 0; version = 2 ^ 31; permutation = identity + size_s s; next = 0 }) s

-- INTERNODES. "internodes take sixteen children in order, the last what is left; a separator is the first ikey of the subtree to its
-- right".
unfoldable pub first_ikey_s : Slots → ℕ
first_ikey_s none = 0
first_ikey_s (value s r) = s.ikey
first_ikey_s (layer s n r) = s.ikey

unfoldable mutual
  pub first_ikey_n : Node → ℕ
  first_ikey_n (leaf h s) = first_ikey_s s
  first_ikey_n (internode h k) = first_ikey_k k
  first_ikey_n beyond = 0

  pub first_ikey_k : Kids → ℕ
  first_ikey_k (last n) = first_ikey_n n
  first_ikey_k (more n x k) = first_ikey_n n

unfoldable pub kids_of : Node → List Node → Kids
kids_of n [] = last n
kids_of n (m ∷ ns) = more n (first_ikey_n m) (kids_of m ns)

unfoldable pub internode_of : Node → List Node → Node
internode_of n ns = internode (record { offset = 0; version = 0; nkeys = length ns }) (kids_of n ns)

-- One level of internodes over the nodes ns, of which there are at most f: the first with fifteen more, then the rest.
unfoldable pub level_over : ℕ → List Node → List Node
level_over zero ns = []
level_over (suc f) [] = []
level_over (suc f) (n ∷ ns) = internode_of n (take 15 ns) ∷ level_over f (drop 15 ns)

-- Levels until one node is left, over at most f nodes.
unfoldable pub root_over : ℕ → List Node → Node
root_over zero ns = beyond
root_over (suc f) [] = beyond
root_over (suc f) (n ∷ []) = n
root_over (suc f) (n ∷ m ∷ ns) = root_over f (level_over (suc (suc (length ns))) (n ∷ m ∷ ns))

-- A LAYER, with `sub` for the layers below it; and with at most n layers on a way down.
unfoldable pub leaves_of : (List Pair → Node) → List Pair → List Node
leaves_of sub ps = map leaf_of (fill 15 (map (group_slots sub) (groups ps)))

unfoldable pub layer_over : (List Pair → Node) → List Pair → Node
layer_over sub ps = let ls = leaves_of sub ps in root_over (length ls) ls

unfoldable pub layer_of : ℕ → List Pair → Node
layer_of zero ps = beyond
layer_of (suc n) ps = layer_over (layer_of n) ps

-- THE SHAPE. Keys have at most 256 bytes, eight to a layer: 32 layers.
unfoldable pub shape : List Pair → Node
shape ps = layer_of 32 ps
