-- Where Start comes to in a leaf, over any bytes. 01 has a rule for cursors of at most eight bytes, 02 [1] for cursors of up to 256;
-- proofs/ByRule01.antt joins the two. In the Rust this is `find_initial`, whose match on the ikey alone does not come along.
use Rattle.std.specs.Prelude.{◌+◌, Result, Ok, Err}
use Rattle.base.specs.Kit.{Bool, true, false, not, List, ℕ, zero, suc, leb, ltb, eqb}
use Rattle.base.specs.Pick.{pick}
use Rattle.base.specs.Decline.{and_then}
use Rattle.key.specs.Order.{byte_order, order, then}
use Rattle.node.specs.Permuter.{size_of}
use Rattle.node.specs.Layout.{permutation_at, ikey_at, keylenx_at, suffix_at}
use Rattle.start.specs.Types.{Decline, Unreadable, Position, Slot, CursorPlace, StartMode, Above, From, Verdict, Pass, Stand, Enter, Started, At, EnterAt}
use Rattle.cursor.specs.CursorKey.{suffix_of, has_suffix}
use Rattle.search.specs.Helper.{position, slot_in, by_order, suffix_readable, suffix_bytes}

-- 01'S RULE: "stand at the first slot whose ikey, then `keylenx`, is not below the cursor's ikey, then length, else past the last".
unfoldable pub below : CursorPlace → ℕ → ℕ → Bool
below k ikey keylenx = pick (ltb ikey k.ikey) true (pick (eqb ikey k.ikey) (ltb keylenx k.len) false)

-- From position i on with n left. "22: .. a slot of 15".
unfoldable pub not_below_from : List ℕ → ℕ → CursorPlace → ℕ → ℕ → Result Position Decline
not_below_from image leaf k i zero = Ok (position i)
not_below_from image leaf k i (suc n) =
    pick (leb 15 (slot_in image leaf i).0) (Err Unreadable)
    (pick (below k (ikey_at image leaf (slot_in image leaf i)) (keylenx_at image leaf (slot_in image leaf i))) (not_below_from image leaf k (i + 1) n) (Ok (position i)))

unfoldable pub first_not_below : List ℕ → ℕ → CursorPlace → Result Position Decline
first_not_below image leaf k = not_below_from image leaf k 0 (size_of (permutation_at image leaf))

-- The same as an answer of 02's search below: no layer is entered.
unfoldable pub started : Result Position Decline → Result Started Decline
started (Ok p) = Ok (At p)
started (Err d) = Err d

-- 02'S RULE, slot by slot. "mode above stands past an equal key".
unfoldable pub at_equal : StartMode → Verdict
at_equal Above = Pass
at_equal From = Stand

-- "a Start move with at most eight cursor bytes left in its layer goes by document 01's rule" ("the first slot whose ikey, then
-- `keylenx`, is not below the cursor's ikey, then length"); "in mode above, where the whole cursor (offset plus length) is past
-- eight, to the first slot above instead".
unfoldable pub short_verdict : StartMode → CursorPlace → ℕ → ℕ → Verdict
short_verdict mode k ikey keylenx =
    by_order (then (order ikey k.ikey) (order keylenx k.len)) Pass (pick (ltb 8 (k.offset + k.len)) (at_equal mode) Stand) Stand

-- "a suffix below the cursor's rest (in mode above, or equal to it) is passed over", and it "meets 22 as one handed out does".
unfoldable pub suffix_verdict : StartMode → List ℕ → ℕ → CursorPlace → List ℕ → Slot → Result Verdict Decline
suffix_verdict mode image leaf k buf s =
    pick (not (suffix_readable image leaf s)) (Err Unreadable)
    (pick (ltb 256 (k.offset + 8 + (suffix_at image leaf s).len)) (Err Unreadable)
    (by_order (byte_order (suffix_bytes image leaf s) (suffix_of k buf)) (Ok Pass) (Ok (at_equal mode)) (Ok Stand)))

-- "With more left it takes the first slot in order whose ikey is above the cursor's, or equal to it with a `keylenx` over 8: of
-- the equal ones a layer is entered, a suffix .., and a `keylenx` that is neither meets 22. Live bits are not read".
unfoldable pub long_verdict : StartMode → List ℕ → ℕ → CursorPlace → List ℕ → Slot → Result Verdict Decline
long_verdict mode image leaf k buf s =
    by_order (order (ikey_at image leaf s) k.ikey) (Ok Pass)
    (pick (leb (keylenx_at image leaf s) 8) (Ok Pass)
    (pick (leb 128 (keylenx_at image leaf s)) (Ok Enter)
    (pick (eqb (keylenx_at image leaf s) 64) (suffix_verdict mode image leaf k buf s) (Err Unreadable))))
    (Ok Stand)

unfoldable pub verdict : StartMode → List ℕ → ℕ → CursorPlace → List ℕ → Slot → Result Verdict Decline
verdict mode image leaf k buf s =
    pick (has_suffix k) (long_verdict mode image leaf k buf s) (Ok (short_verdict mode k (ikey_at image leaf s) (keylenx_at image leaf s)))

unfoldable pub by_verdict : Verdict → ℕ → Slot → Result Started Decline → Result Started Decline
by_verdict Pass i s rest = rest
by_verdict Stand i s rest = Ok (At (position i))
by_verdict Enter i s rest = Ok (EnterAt s)

-- From position i on with n left: "passed over and the search goes on"; "else past the last".
unfoldable pub start_from : StartMode → List ℕ → ℕ → CursorPlace → List ℕ → ℕ → ℕ → Result Started Decline
start_from mode image leaf k buf i zero = Ok (At (position i))
start_from mode image leaf k buf i (suc n) =
    pick (leb 15 (slot_in image leaf i).0) (Err Unreadable)
    (and_then (verdict mode image leaf k buf (slot_in image leaf i))
    (λ v. by_verdict v i (slot_in image leaf i) (start_from mode image leaf k buf (i + 1) n)))

unfoldable pub start_position : StartMode → List ℕ → ℕ → CursorPlace → List ℕ → Result Started Decline
start_position mode image leaf k buf = start_from mode image leaf k buf 0 (size_of (permutation_at image leaf))
