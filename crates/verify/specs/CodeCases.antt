-- What the check's inner functions answer, each in the order of its tests, and what the cases of their answers stand for.
-- proofs/Steps.antt proves that they come to the check (specs/Check.antt).
use Rattle.std.specs.Prelude.{◌&&◌, ◌≡◌, ◌+◌, ◌*◌, ◌/◌, ◌≤◌, Result, Ok, Err}
use Rattle.base.specs.Kit.{Bool, true, false, not, List, [], ℕ, zero, suc, leb, eqb, length}
use Rattle.base.specs.Decline.{and_then}
use Rattle.base.specs.Pick.{pick}
use Rattle.node.specs.Version.{is_leaf, at_rest}
use Rattle.node.specs.Permuter.{size_of, slot_at}
use Rattle.node.specs.Layout.{version_at, permutation_at, ikey_at, keylenx_at, live_at, value_at, suffix_at, next_at, nkeys_at}
use Rattle.verify.specs.Types.{Decline, RecordPlace, RecordVersion, LeafPermutation, SlotLength, SlotKey, SlotOrder, LeafChain, Slot, Suffix, Progress, RecordKind, Leaf, Internode, SlotCheck, Layer, Passed}
use Rattle.layering.specs.Tree.{Fields}
use Rattle.verify.specs.Check.{Checked, each, slot_c, with_place, demand, pass_value, pass_leaf, enter_layer, leave_layer, reachable, is_next, expected, permutes, separators_from, listed, fits, in_order, in_range, layer_c}

-- A record that was reached: what its leaf or its children come to, or the fault.
unfoldable pub after_record : Result RecordKind Decline → Checked → Checked → Checked
after_record (Ok Leaf) leaf inner = leaf
after_record (Ok Internode) leaf inner = inner
after_record (Err d) leaf inner = Err d

-- A slot: its layer is checked by `sub`, a value slot is passed, or the fault.
unfoldable pub after_slot : Result SlotCheck Decline → (ℕ → Progress → Checked) → Progress → Checked
after_slot (Ok (Layer root)) sub p = and_then (sub root (enter_layer p)) (λ q. Ok (leave_layer p q))
after_slot (Ok (Passed q)) sub p = Ok q
after_slot (Err d) sub p = Err d

-- What checks a layer's sub-layers, with `below` layers allowed below it: none is at depth 31.
unfoldable pub sub_c : List ℕ → ℕ → ℕ → Progress → Checked
sub_c image zero root p = Err SlotKey
sub_c image (suc below) root p = layer_c image below root p

-- RECORDS. A leaf and an internode up to their parts, and a record on being reached; `path` internodes are left to it.
unfoldable pub leaf_check : List ℕ → ℕ → Progress → Result RecordKind Decline
leaf_check image at p =
    pick (not (reachable image 400 at p)) (Err RecordPlace)
    (pick (not (at_rest (version_at image at))) (Err RecordVersion)
    (pick (not (expected at p)) (Err LeafChain) (pick (not (permutes (permutation_at image at))) (Err LeafPermutation) (Ok Leaf))))

unfoldable pub internode_check : List ℕ → ℕ → ℕ → ℕ → ℕ → Result RecordKind Decline
internode_check image path at lo hi =
    pick (not (at_rest (version_at image at) && leb (nkeys_at image at) 15)) (Err RecordVersion)
    (pick (eqb path 0) (Err RecordVersion) (pick (not (separators_from image at lo hi 0 (nkeys_at image at))) (Err SlotOrder) (Ok Internode)))

unfoldable pub record_check : List ℕ → ℕ → ℕ → ℕ → ℕ → Progress → Result RecordKind Decline
record_check image path at lo hi p =
    pick (not (reachable image 256 at p)) (Err RecordPlace)
    (pick (is_leaf (version_at image at)) (leaf_check image at p) (internode_check image path at lo hi))

-- A leaf that is checked up to its slots.
pub record LeafTold (image : List ℕ) (at : ℕ) : Type 0 where
  pub before : at + 432 ≤ length image
  pub permuted : permutes (permutation_at image at) ≡ true

-- SLOTS. `keyed` is a slot of which only an ikey, a `keylenx` and a suffix's length are known: its tests read no more.
abbrev pub keyed : ℕ → ℕ → ℕ → Fields
keyed ikey keylenx len = record { ikey = ikey; keylenx = keylenx; live = false; value = 0; start = 0; len = len; suffix = [] }

abbrev pub keyed_at : List ℕ → ℕ → Slot → Fields
keyed_at image at slot = keyed (ikey_at image at slot) (keylenx_at image at slot) (suffix_at image at slot).len

-- A suffix at its place, and a slot that passed its tests, by its kind.
unfoldable pub suffix_check : ℕ → Suffix → Bool → Progress → Result SlotCheck Decline
suffix_check at s live p =
    pick (eqb s.start p.place && leb (s.start + s.len) at) (Ok (Passed (pass_value ((s.len + 7) / 8 * 8) live p))) (Err RecordPlace)

unfoldable pub kind_check : List ℕ → ℕ → Slot → Progress → Result SlotCheck Decline
kind_check image at slot p =
    pick (leb 128 (keylenx_at image at slot)) (Ok (Layer (value_at image at slot)))
    (pick (eqb (keylenx_at image at slot) 64) (suffix_check at (suffix_at image at slot) (live_at image at slot) p)
    (Ok (Passed (pass_value 0 (live_at image at slot) p))))

unfoldable pub slot_check : List ℕ → ℕ → ℕ → ℕ → ℕ → ℕ → Progress → Result SlotCheck Decline
slot_check image depth at lo hi i p =
    let slot = slot_at (permutation_at image at) (record { 0 = i }) in
    let s = keyed_at image at slot in
    pick (not (listed depth s)) (Err SlotLength)
    (pick (not (fits depth s)) (Err SlotKey) (pick (not (in_order image at i && in_range lo hi s)) (Err SlotOrder) (kind_check image at slot p)))

-- A leaf's permutation, which is one of 0 to 14.
pub record Opened (image : List ℕ) (at permutation : ℕ) : Type 0 where
  pub is : permutation ≡ permutation_at image at
  pub permuted : permutes permutation ≡ true

-- ENDS of a record of `size` bytes, of a leaf, and of a layer: "After a record's parts 3"; "After a layer 9".
unfoldable pub record_end : ℕ → ℕ → Progress → Checked
record_end at size q = demand RecordPlace (eqb at q.place) (with_place (q.place + size) q)

unfoldable pub leaf_end : List ℕ → ℕ → Progress → Checked
leaf_end image at q = demand RecordPlace (eqb at q.place) (pass_leaf (next_at image at) q)

-- A leaf's slots, and its end.
abbrev pub leaf_parts : (ℕ → Progress → Checked) → List ℕ → ℕ → ℕ → ℕ → ℕ → Progress → Checked
leaf_parts sub image depth at lo hi p =
    and_then (each (slot_c sub image depth at lo hi) 0 (size_of (permutation_at image at)) p) (leaf_end image at)

unfoldable pub layer_end : Progress → Checked
layer_end q = demand LeafChain (is_next 0 q.next) q

-- NUMBERS STAY SMALL. All that is counted is at most the place reached, but for `ahead` slots of leaves that are not passed
-- yet: a leaf takes 400 bytes and has at most 15 slots, so that `ahead` is at most 15 for each layer on the way down. No more
-- slots are live than have values.
pub record Bounded (ahead : ℕ) (p : Progress) : Type 0 where
  pub within : p.place ≤ 16777216
  pub counted : p.counts.leaves + p.counts.value_slots + p.counts.sub_layers ≤ p.place + ahead
  pub lively : p.live_slots ≤ p.counts.value_slots

-- An image that number 1 is not met by.
pub record Sized (image : List ℕ) : Type 0 where
  pub long : 440 ≤ length image
  pub short : length image ≤ 16777216
