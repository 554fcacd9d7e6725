-- The check's answer for every byte list (01, "Check an image"). The tree is gone through in post-order, "the first fault
-- deciding"; each test stands where 01 has it.
use Rattle.std.specs.Prelude.{◌&&◌, ◌||◌, ◌+◌, ◌*◌, ◌%◌, ◌-◌, ◌^◌, Option, Some, None, Result, Ok, Err}
use Rattle.base.specs.Kit.{Bool, true, not, List, ℕ, zero, suc, leb, ltb, eqb, length}
use Rattle.base.specs.Decline.{decline_number, and_then}
use Rattle.base.specs.Pick.{pick}
use Rattle.node.specs.Version.{is_leaf, at_rest}
use Rattle.node.specs.Permuter.{size_of, slot_at}
use Rattle.node.specs.Layout.{version_at, permutation_at, next_at, nkeys_at, separator_at, child_at, root_offset, key_count}
use Rattle.node.specs.Heading.{heading}
use Rattle.layering.specs.Tree.{Fields, fields_at}
use Rattle.layering.specs.Accepted.{room}
use Rattle.verify.specs.Types.{Decline, RecordPlace, RecordVersion, LeafPermutation, SlotLength, SlotKey, SlotOrder, LeafChain, KeyCount, Counts, Progress}

-- 01's number of an answer, 0 for acceptance, and its values: "Acceptance gives the numbers of leaves, value slots and
-- sub-layers"; "A declined call returns its number, zero elsewhere".
unfoldable pub check_number : Result Counts Decline → ℕ
check_number (Ok c) = 0
check_number (Err d) = decline_number d

unfoldable pub check_counts : Result Counts Decline → Counts
check_counts (Ok c) = c
check_counts (Err d) = record { leaves = 0; value_slots = 0; sub_layers = 0 }

-- What the check of a part of the tree comes to: the progress behind it, or the first fault.
abbrev pub Checked : Type 0
Checked = Result Progress Decline

-- PROGRESS where nothing is counted yet and no leaf was met; and with another place, another chain of leaves, other counts.
abbrev pub uncounted : ℕ → Progress
uncounted place =
    record { place = place; counts = record { leaves = 0; value_slots = 0; sub_layers = 0 }; live_slots = 0; next = None }

abbrev pub with_place : ℕ → Progress → Progress
with_place place p = record { place = place; counts = p.counts; live_slots = p.live_slots; next = p.next }

abbrev pub with_next : Option ℕ → Progress → Progress
with_next next p = record { place = p.place; counts = p.counts; live_slots = p.live_slots; next = next }

abbrev pub with_counts : Counts → ℕ → Progress → Progress
with_counts counts live p = record { place = p.place; counts = counts; live_slots = live; next = p.next }

-- GOING ON. Nothing is looked at behind a fault, by `and_then`. Here: `f` at i, i + 1 and so on, n times.
unfoldable pub each : (ℕ → Progress → Checked) → ℕ → ℕ → Progress → Checked
each f i zero p = Ok p
each f i (suc n) p = and_then (f i p) (each f (i + 1) n)

-- d where the test fails.
unfoldable pub demand : Decline → Bool → Progress → Checked
demand d test p = pick test (Ok p) (Err d)

-- What a part of the tree adds to the progress: a value slot, live or dead, whose suffix takes so many bytes.
abbrev pub pass_value : ℕ → Bool → Progress → Progress
pass_value bytes live p =
    let c = p.counts in
    let counts : Counts = record { leaves = c.leaves; value_slots = c.value_slots + 1; sub_layers = c.sub_layers } in
    with_place (p.place + bytes) (with_counts counts (p.live_slots + pick live 1 0) p)

unfoldable pub pass_leaf : ℕ → Progress → Progress
pass_leaf next p =
    let c = p.counts in
    let counts : Counts = record { leaves = c.leaves + 1; value_slots = c.value_slots; sub_layers = c.sub_layers } in
    with_place (p.place + 400) (with_next (Some next) (with_counts counts p.live_slots p))

unfoldable pub pass_internode : Progress → Progress
pass_internode p = with_place (p.place + 256) p

-- A sub-layer has a chain of leaves of its own; behind it that of the layer above goes on.
abbrev pub enter_layer : Progress → Progress
enter_layer p =
    let c = p.counts in
    let counts : Counts = record { leaves = c.leaves; value_slots = c.value_slots; sub_layers = c.sub_layers + 1 } in
    with_next None (with_counts counts p.live_slots p)

unfoldable pub leave_layer : Progress → Progress → Progress
leave_layer above p = with_next above.next p

-- RECORDS. "On reaching a record 3: offset not a multiple of 8, below the place reached, or record running into the
-- trailer": a record of `size` bytes at `at`.
unfoldable pub reachable : List ℕ → ℕ → ℕ → Progress → Bool
reachable image size at p = eqb (at % 8) 0 && (leb p.place at && leb (at + size + 32) (length image))

-- SLOTS. "6: `keylenx` not listed, 0 below the root, or a nonzero ikey byte past the key's end": the ikey of a key of n
-- bytes is a multiple of 256 ^ (8 - n).
unfoldable pub listed : ℕ → Fields → Bool
listed depth s =
    pick (leb s.keylenx 8) ((eqb depth 0 || ltb 0 s.keylenx) && eqb (s.ikey % 256 ^ (8 - s.keylenx)) 0)
    (eqb s.keylenx 64 || leb 128 s.keylenx)

-- "7: suffix empty, key over 256 bytes, or a layer slot at depth 31".
unfoldable pub fits : ℕ → Fields → Bool
fits depth s =
    pick (eqb s.keylenx 64) (ltb 0 s.len && leb (8 * depth + 8 + s.len) 256) (pick (leb 128 s.keylenx) (ltb depth 31) true)

-- "8: order, a second slot of 64 or more for one ikey, or range".
unfoldable pub before : Fields → Fields → Bool
before s t = ltb s.ikey t.ikey || (eqb s.ikey t.ikey && (ltb s.keylenx t.keylenx && ltb s.keylenx 64))

unfoldable pub in_order : List ℕ → ℕ → ℕ → Bool
in_order image at zero = true
in_order image at (suc i) = before (fields_at image at i) (fields_at image at (suc i))

unfoldable pub in_range : ℕ → ℕ → Fields → Bool
in_range lo hi s = leb lo s.ikey && ltb s.ikey hi

-- "3: a suffix not at the place reached or running into its leaf".
unfoldable pub suffix_c : ℕ → Fields → Progress → Checked
suffix_c at s p = demand RecordPlace (eqb s.start p.place && leb (s.start + s.len) at) (pass_value (room s) s.live p)

-- "then the layer"; `sub` checks the layer at a root.
unfoldable pub layer_slot_c : (ℕ → Progress → Checked) → Fields → Progress → Checked
layer_slot_c sub s p = and_then (sub s.value (enter_layer p)) (λ q. Ok (leave_layer p q))

-- The slot at position i of the leaf at `at`, whose layer lies at `depth` and whose ikeys lie from lo up to but not at hi.
unfoldable pub slot_c : (ℕ → Progress → Checked) → List ℕ → ℕ → ℕ → ℕ → ℕ → ℕ → Progress → Checked
slot_c sub image depth at lo hi i p =
    let s = fields_at image at i in
    pick (not (listed depth s)) (Err SlotLength)
    (pick (not (fits depth s)) (Err SlotKey)
    (pick (not (in_order image at i && in_range lo hi s)) (Err SlotOrder)
    (pick (leb 128 s.keylenx) (layer_slot_c sub s p) (pick (eqb s.keylenx 64) (suffix_c at s p) (Ok (pass_value 0 s.live p))))))

-- LEAVES. Where a layer has had a leaf, the last one's next is `at`.
unfoldable pub is_next : ℕ → Option ℕ → Bool
is_next at None = true
is_next at (Some next) = eqb next at

-- "9: the previous leaf's `next` is not this leaf".
unfoldable pub expected : ℕ → Progress → Bool
expected at p = is_next at p.next

-- "5: permutation": the fifteen fields, each below 15 and equal to none before it.
unfoldable pub fresh_from : ℕ → ℕ → ℕ → ℕ → Bool
fresh_from permutation slot i zero = true
fresh_from permutation slot i (suc n) = not (eqb (slot_at permutation (record { 0 = i })).0 slot) && fresh_from permutation slot (i + 1) n

unfoldable pub permutes_from : ℕ → ℕ → ℕ → Bool
permutes_from permutation i zero = true
permutes_from permutation i (suc n) =
    let slot = (slot_at permutation (record { 0 = i })).0 in
    ltb slot 15 && (fresh_from permutation slot 0 i && permutes_from permutation (i + 1) n)

unfoldable pub permutes : ℕ → Bool
permutes permutation = permutes_from permutation 0 15

-- "After a record's parts 3: it does not start at the place reached."
unfoldable pub leaf_c : (ℕ → Progress → Checked) → List ℕ → ℕ → ℕ → ℕ → ℕ → Progress → Checked
leaf_c sub image depth at lo hi p =
    pick (not (expected at p)) (Err LeafChain)
    (pick (not (permutes (permutation_at image at))) (Err LeafPermutation)
    (and_then (each (slot_c sub image depth at lo hi) 0 (size_of (permutation_at image at)) p)
    (λ q. demand RecordPlace (eqb at q.place) (pass_leaf (next_at image at) q))))

-- INTERNODES. "8: separators": they ascend strictly, from above lo to below hi.
unfoldable pub separators_from : List ℕ → ℕ → ℕ → ℕ → ℕ → ℕ → Bool
separators_from image at lo hi i zero = true
separators_from image at lo hi i (suc n) =
    ltb lo (separator_at image at i) && (ltb (separator_at image at i) hi && separators_from image at (separator_at image at i) hi (i + 1) n)

-- Child i's ends: the separators on its two sides, or the internode's own.
unfoldable pub low_end : List ℕ → ℕ → ℕ → ℕ → ℕ
low_end image at lo zero = lo
low_end image at lo (suc i) = separator_at image at i

unfoldable pub high_end : List ℕ → ℕ → ℕ → ℕ → ℕ
high_end image at hi i = pick (ltb i (nkeys_at image at)) (separator_at image at i) hi

-- `kid` checks the subtree at an offset between two ends.
unfoldable pub internode_c : (ℕ → ℕ → ℕ → Progress → Checked) → List ℕ → ℕ → ℕ → ℕ → Progress → Checked
internode_c kid image at lo hi p =
    pick (not (separators_from image at lo hi 0 (nkeys_at image at))) (Err SlotOrder)
    (and_then (each (λ i. kid (child_at image at i) (low_end image at lo i) (high_end image at hi i)) 0 (nkeys_at image at + 1) p)
    (λ q. demand RecordPlace (eqb at q.place) (pass_internode q)))

-- SUBTREES. On reaching a record: "3: ..."; "4: a forbidden version bit, more than 15 keys, or a thirteenth internode". Its
-- leaf bit is read where an internode would lie before the trailer; a leaf is longer. `inner` is what an internode comes to.
unfoldable pub record_c : (ℕ → Progress → Checked) → List ℕ → ℕ → ℕ → ℕ → ℕ → Progress → Checked → Checked
record_c sub image depth at lo hi p inner =
    pick (not (reachable image 256 at p)) (Err RecordPlace)
    (pick (is_leaf (version_at image at))
    (pick (not (reachable image 400 at p)) (Err RecordPlace)
    (pick (not (at_rest (version_at image at))) (Err RecordVersion) (leaf_c sub image depth at lo hi p)))
    (pick (not (at_rest (version_at image at) && leb (nkeys_at image at) 15)) (Err RecordVersion) inner))

-- The subtree at an offset, with at most n internodes on a path.
unfoldable pub node_c : (ℕ → Progress → Checked) → List ℕ → ℕ → ℕ → ℕ → ℕ → ℕ → Progress → Checked
node_c sub image depth zero at lo hi p = record_c sub image depth at lo hi p (Err RecordVersion)
node_c sub image depth (suc n) at lo hi p =
    record_c sub image depth at lo hi p (internode_c (node_c sub image depth n) image at lo hi p)

-- LAYERS. "0 and 2^64 being a layer's" ends. "After a layer 9: last `next` not 0."
unfoldable pub layer_with : (ℕ → Progress → Checked) → List ℕ → ℕ → ℕ → Progress → Checked
layer_with sub image depth root p = and_then (node_c sub image depth 12 root 0 (2 ^ 64) p) (λ q. demand LeafChain (is_next 0 q.next) q)

-- The layer at a root, with `below` more allowed below it: 31 below the tree's own.
unfoldable pub layer_c : List ℕ → ℕ → ℕ → Progress → Checked
layer_c image zero root p = layer_with (λ r q. Err SlotKey) image 31 root p
layer_c image (suc below) root p = layer_with (layer_c image below) image (31 - suc below) root p

-- "At the end 3: root's end is not the trailer; 10: key count." 02 [3]: "10 now compares the live count".
unfoldable pub finish : List ℕ → Progress → Result Counts Decline
finish image p =
    pick (not (eqb (p.place + 32) (length image))) (Err RecordPlace)
    (pick (not (eqb (key_count image) p.live_slots)) (Err KeyCount) (Ok p.counts))

-- Before the first record: nothing is counted, and records begin at byte 8.
abbrev pub begin : Progress
begin = uncounted 8

-- THE CHECK.
unfoldable pub check : List ℕ → Result Counts Decline
check image = and_then (heading image) (λ _. and_then (layer_c image 31 (root_offset image) begin) (finish image))
