-- Searches in a leaf, over any bytes (01, module 4; the Rust's helper.rs). The leaf is known to lie before the trailer.
-- "22: .. a slot of 15" is met where the permutation's field is read; a suffix that is compared must lie before the trailer.
use Rattle.std.specs.Prelude.{◌+◌, ◌-◌, Result, Ok, Err, Option, Some, None}
use Rattle.base.specs.Kit.{Bool, true, not, List, ℕ, zero, suc, leb, eqb}
use Rattle.base.specs.Pick.{pick}
use Rattle.base.specs.Decline.{and_then}
use Rattle.key.specs.Part.{part}
use Rattle.key.specs.Order.{byte_order, order}
use Rattle.search.specs.Types.{Decline, Unreadable, Ordering, Less, Equal, Greater, Position, Slot, CursorPlace, KeyIndexedPosition, NotFound, Found}
use Rattle.node.specs.Permuter.{size_of, slot_at}
use Rattle.node.specs.Layout.{permutation_at, ikey_at, keylenx_at, suffix_at}
use Rattle.cursor.specs.CursorKey.{suffix_of, has_suffix}
use Rattle.search.specs.Traversal.{readable}

abbrev pub position : ℕ → Position
position i = record { 0 = i }

-- The slot at position i of a leaf.
abbrev pub slot_in : List ℕ → ℕ → ℕ → Slot
slot_in image leaf i = slot_at (permutation_at image leaf) (position i)

-- What the three orders come to.
unfoldable pub by_order : {A : Type 0} → Ordering → A → A → A → A
by_order Less less equal greater = less
by_order Equal less equal greater = equal
by_order Greater less equal greater = greater

-- `lower_with_position`: from position i on with n left, the first slot whose ikey is not below `ikey`.
unfoldable pub lower_from : List ℕ → ℕ → ℕ → ℕ → ℕ → Result KeyIndexedPosition Decline
lower_from image leaf ikey i zero = Ok (NotFound (position i))
lower_from image leaf ikey i (suc n) =
    pick (leb 15 (slot_in image leaf i).0) (Err Unreadable)
    (by_order (order ikey (ikey_at image leaf (slot_in image leaf i))) (Ok (NotFound (position i))) (Ok (Found (position i) (slot_in image leaf i))) (lower_from image leaf ikey (i + 1) n))

unfoldable pub lower_with_position : List ℕ → ℕ → ℕ → Result KeyIndexedPosition Decline
lower_with_position image leaf ikey = lower_from image leaf ikey 0 (size_of (permutation_at image leaf))

-- A slot's suffix lies where it may be read; and its bytes.
unfoldable pub suffix_readable : List ℕ → ℕ → Slot → Bool
suffix_readable image leaf s = readable image (suffix_at image leaf s).start (suffix_at image leaf s).len

unfoldable pub suffix_bytes : List ℕ → ℕ → Slot → List ℕ
suffix_bytes image leaf s = part image (suffix_at image leaf s).start (suffix_at image leaf s).len

-- The cursor's suffix against the slot's, where the slot has one: "`keylenx` .. 64 a key with a suffix".
unfoldable pub stored_order : List ℕ → ℕ → CursorPlace → List ℕ → Slot → Result (Option Ordering) Decline
stored_order image leaf k buf s =
    pick (not (eqb (keylenx_at image leaf s) 64)) (Ok None)
    (pick (not (suffix_readable image leaf s)) (Err Unreadable) (Ok (Some (byte_order (suffix_of k buf) (suffix_bytes image leaf s)))))

-- A slot of the cursor's ikey has a suffix or a layer, or is no shorter inline key than the cursor.
unfoldable pub not_shorter : ℕ → ℕ → Bool
not_shorter keylenx len = pick (eqb keylenx 64) true (pick (leb 128 keylenx) true (leb len keylenx))

-- `find_position_after_inline`, from position i on with n left: the first slot of another ikey, or one that is not shorter.
unfoldable pub after_inline : List ℕ → ℕ → CursorPlace → ℕ → ℕ → Result Position Decline
after_inline image leaf k i zero = Ok (position i)
after_inline image leaf k i (suc n) =
    pick (leb 15 (slot_in image leaf i).0) (Err Unreadable)
    (pick (not (eqb (ikey_at image leaf (slot_in image leaf i)) k.ikey)) (Ok (position i))
    (pick (not_shorter (keylenx_at image leaf (slot_in image leaf i)) k.len) (Ok (position i)) (after_inline image leaf k (i + 1) n)))

-- `find_position_after_suffix`, from position i on with n left: the first slot of another ikey, or with a suffix not below the
-- cursor's.
unfoldable pub not_below : Option Ordering → ℕ → Result Position Decline → Result Position Decline
not_below (Some Less) i rest = Ok (position i)
not_below (Some Equal) i rest = Ok (position i)
not_below (Some Greater) i rest = rest
not_below None i rest = rest

unfoldable pub after_suffix : List ℕ → ℕ → CursorPlace → List ℕ → ℕ → ℕ → Result Position Decline
after_suffix image leaf k buf i zero = Ok (position i)
after_suffix image leaf k buf i (suc n) =
    pick (leb 15 (slot_in image leaf i).0) (Err Unreadable)
    (pick (not (eqb (ikey_at image leaf (slot_in image leaf i)) k.ikey)) (Ok (position i))
    (and_then (stored_order image leaf k buf (slot_in image leaf i)) (λ o. not_below o i (after_suffix image leaf k buf (i + 1) n))))

-- The slots behind position i: how many are left.
unfoldable pub behind : List ℕ → ℕ → ℕ → ℕ
behind image leaf i = size_of (permutation_at image leaf) - (i + 1)

-- `lower_with_suffix` where the first slot of the cursor's ikey stands at position i. A cursor that does not go on past the ikey
-- goes by length; one that does, by suffix; a layer is passed by the second and not by the first.
unfoldable pub past_layer : CursorPlace → ℕ → Result Position Decline
past_layer k i = pick (has_suffix k) (Ok (position (i + 1))) (Ok (position i))

unfoldable pub past_inline : List ℕ → ℕ → CursorPlace → ℕ → Ordering → Result Position Decline
past_inline image leaf k i Less = Ok (position i)
past_inline image leaf k i Equal = Ok (position (i + 1))
past_inline image leaf k i Greater = after_inline image leaf k (i + 1) (behind image leaf i)

unfoldable pub past_suffix : List ℕ → ℕ → CursorPlace → List ℕ → ℕ → Option Ordering → Result Position Decline
past_suffix image leaf k buf i (Some Less) = Ok (position i)
past_suffix image leaf k buf i (Some Equal) = Ok (position (i + 1))
past_suffix image leaf k buf i (Some Greater) = after_suffix image leaf k buf (i + 1) (behind image leaf i)
past_suffix image leaf k buf i None = after_suffix image leaf k buf (i + 1) (behind image leaf i)

unfoldable pub at_match : List ℕ → ℕ → CursorPlace → List ℕ → ℕ → Slot → Result Position Decline
at_match image leaf k buf i s =
    pick (leb 128 (keylenx_at image leaf s)) (past_layer k i)
    (pick (not (has_suffix k)) (past_inline image leaf k i (order k.len (keylenx_at image leaf s)))
    (and_then (stored_order image leaf k buf s) (past_suffix image leaf k buf i)))

unfoldable pub at_found : List ℕ → ℕ → CursorPlace → List ℕ → KeyIndexedPosition → Result Position Decline
at_found image leaf k buf (NotFound p) = Ok p
at_found image leaf k buf (Found p s) = at_match image leaf k buf p.0 s

-- `lower_with_suffix`: where a walk that has come to the cursor goes on in a leaf.
unfoldable pub lower_with_suffix : List ℕ → ℕ → CursorPlace → List ℕ → Result Position Decline
lower_with_suffix image leaf k buf = and_then (lower_with_position image leaf k.ikey) (at_found image leaf k buf)
