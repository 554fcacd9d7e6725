-- One move in each state, over any bytes and any walk record (01, "Modules", the list Start, Retry, FindNext, Down, Up; the
-- Rust's forward_ctx.rs). A move takes what goes by value, `c`, and the buffer; the loop holds the stack.
use Rattle.std.specs.Prelude.{◌&&◌, ◌||◌, ◌+◌, Result, Ok, Err, Option, Some, None}
use Rattle.base.specs.Kit.{Bool, true, false, not, List, ℕ, leb, ltb, eqb, take}
use Rattle.base.specs.Pick.{pick}
use Rattle.base.specs.Decline.{and_then}
use Rattle.node.specs.Permuter.{size_of}
use Rattle.node.specs.Layout.{permutation_at, ikey_at, keylenx_at, value_at, live_at, suffix_at, next_at}
use Rattle.moves.specs.Types.{Decline, Unreadable, Ordering, Less, Equal, Greater, Position, Slot, CursorPlace, Side, Inside, AtEnd, Past, StartMode, Started, At, EnterAt, ScanState, Start, Retry, FindNext, Down, Up, ScanCtx, Outcome, Continue, Push, Emit, Exhausted, Pass}
use Rattle.cursor.specs.CursorKey.{shift, shift_clear, unshift, has_suffix, compare_slot, with_ikey, with_length, store_ikey, store_suffix}
use Rattle.cursor.specs.RangeBound.{tested}
use Rattle.search.specs.Traversal.{leaf_there, reach}
use Rattle.search.specs.Helper.{position, slot_in, by_order, suffix_readable, suffix_bytes, stored_order, lower_with_suffix}
use Rattle.start.specs.Start.{start_position}

-- What a move changes of `c`: all but the layer. What entering or leaving a layer changes: the layer's root, its leaf, the depth.
abbrev pub stand_at : ScanCtx → ℕ → Position → CursorPlace → ScanState → Bool → ℕ → ScanCtx
stand_at c leaf p k state dup last =
    record { root = c.root; leaf = leaf; position = p; cursor = k; depth = c.depth; state = state; last = last; dup = dup }

abbrev pub in_layer : ScanCtx → ℕ → ℕ → ℕ → ScanCtx
in_layer c root leaf depth =
    record { root = root; leaf = leaf; position = c.position; cursor = c.cursor; depth = depth; state = c.state; last = c.last; dup = c.dup }

-- The walk stands at a position of a leaf, to find what is there.
unfoldable pub standing : ScanCtx → ℕ → CursorPlace → Bool → ℕ → Position → Pass
standing c leaf k dup last p = record { outcome = Continue; ctx = stand_at c leaf p k FindNext dup last }

-- A pass with the buffer after it; one that meets 22 is declined. Only a slot that is taken, or whose layer is entered, changes the buffer.
pub record Taken : Type 0 where
  pub pass : Result Pass Decline
  pub buf : List ℕ

unfoldable pub kept : List ℕ → Result Pass Decline → Taken
kept buf p = record { pass = p; buf = buf }

-- What f says of an answer; a decline leaves the buffer as it was.
unfoldable pub taken_on : {A : Type 0} → List ℕ → Result A Decline → (A → Taken) → Taken
taken_on buf (Ok x) f = f x
taken_on buf (Err d) f = kept buf (Err d)

-- "Start: as above; Retry the same, but past an equal slot too. Both go to FindNext." Retry asks for the duplicate check, Start
-- does not ("no duplicate check"). "one Start move is made for the root and one for each sub-layer that the cursor's bytes lead
-- into, and the parents are kept so that the way up works": a layer is entered within the move, and Start is next again.
unfoldable pub begin : StartMode → List ℕ → List ℕ → ScanCtx → ℕ → Started → Taken
begin mode image buf c leaf (At p) = kept buf (Ok (standing c leaf c.cursor c.dup c.last p))
begin mode image buf c leaf (EnterAt s) = record {
  pass = Ok (record {
    outcome = Push (value_at image leaf s);
    ctx = stand_at c leaf c.position (shift c.cursor buf) (Start mode) c.dup c.last;
  });
  buf = store_ikey buf c.cursor.offset c.cursor.ikey;
}

unfoldable pub start_in : StartMode → List ℕ → List ℕ → ScanCtx → ℕ → Taken
start_in mode image buf c leaf = taken_on buf (start_position mode image leaf c.cursor buf) (begin mode image buf c leaf)

unfoldable pub find_start : StartMode → List ℕ → List ℕ → ScanCtx → Taken
find_start mode image buf c = taken_on buf (reach image c.cursor.ikey c.root) (start_in mode image buf c)

unfoldable pub retry_in : List ℕ → List ℕ → ScanCtx → ℕ → Result Pass Decline
retry_in image buf c leaf = and_then (lower_with_suffix image leaf c.cursor buf) (λ p. Ok (standing c leaf c.cursor true c.last p))

unfoldable pub find_retry : List ℕ → List ℕ → ScanCtx → Result Pass Decline
find_retry image buf c = and_then (reach image c.cursor.ikey c.root) (retry_in image buf c)

-- "Down: `shift_clear`, the layer's root; Retry."
unfoldable pub handle_down : ScanCtx → Pass
handle_down c = record { outcome = Continue; ctx = stand_at c c.leaf c.position (shift_clear c.cursor) Retry true 0 }

-- "Up: .. else pop, `unshift`, past the cursor's ikey; FindNext." The loop has popped: root and leaf are those of the layer
-- above.
unfoldable pub handle_up : List ℕ → List ℕ → ScanCtx → Result Pass Decline
handle_up image buf c =
    pick (not (leaf_there image c.leaf)) (Err Unreadable)
    (and_then (lower_with_suffix image c.leaf (unshift c.cursor buf) buf) (λ p. Ok (standing c c.leaf (unshift c.cursor buf) true 0 p)))

-- "Past the last slot: the `next` leaf at position 0, or Up where `next` is 0" (in the Rust: at the cursor's place in it).
unfoldable pub advance_leaf : List ℕ → List ℕ → ScanCtx → Result Pass Decline
advance_leaf image buf c =
    pick (eqb (next_at image c.leaf) 0)
    (Ok (record { outcome = Continue; ctx = stand_at c c.leaf c.position c.cursor Up false c.last }))
    (pick (not (leaf_there image (next_at image c.leaf))) (Err Unreadable)
    (and_then (lower_with_suffix image (next_at image c.leaf) c.cursor buf) (λ p. Ok (standing c (next_at image c.leaf) c.cursor false c.last p))))

-- The duplicate check of `find_next_with_dup_check`: whether the cursor has come to a slot or passed it. Of two that go on past
-- the ikey the suffixes decide, and the slot's must be readable.
unfoldable pub dup_by_suffix : Option Ordering → Bool
dup_by_suffix (Some Less) = false
dup_by_suffix (Some Equal) = true
dup_by_suffix (Some Greater) = true
dup_by_suffix None = true

abbrev pub dup_level : List ℕ → List ℕ → ScanCtx → Slot → Result Bool Decline
dup_level image buf c s =
    pick (has_suffix c.cursor) (and_then (stored_order image c.leaf c.cursor buf s) (λ o. Ok (dup_by_suffix o))) (Ok true)

unfoldable pub dup_of : List ℕ → List ℕ → ScanCtx → Slot → Result Bool Decline
dup_of image buf c s =
    by_order (compare_slot c.cursor (ikey_at image c.leaf s) (keylenx_at image c.leaf s)) (Ok false) (dup_level image buf c s) (Ok true)

-- The check is made where Retry, Down or Up asked for it.
abbrev pub dup_due : List ℕ → List ℕ → ScanCtx → Slot → Result Bool Decline
dup_due image buf c s = pick c.dup (dup_of image buf c s) (Ok false)

-- A slot that has been passed: position one on.
unfoldable pub onward : ScanCtx → CursorPlace → ℕ → ScanCtx
onward c k last = stand_at c c.leaf (position (c.position.0 + 1)) k FindNext false last

-- A slot's key can be stored in cursor and buffer: it ends in this layer, or goes on in a suffix that can be read and fits. "22: .. a key
-- over 256 bytes".
unfoldable pub is_storable : List ℕ → ℕ → Slot → ℕ → Bool
is_storable image leaf s offset =
    leb (keylenx_at image leaf s) 8
    || (eqb (keylenx_at image leaf s) 64 && (suffix_readable image leaf s && leb (offset + 8 + (suffix_at image leaf s).len) 256))

-- Cursor and buffer with the key stored in them.
unfoldable pub key_place : List ℕ → ℕ → Slot → CursorPlace → CursorPlace
key_place image leaf s k =
    let keylenx = keylenx_at image leaf s in
    with_length (with_ikey k (ikey_at image leaf s)) (pick (leb keylenx 8) keylenx (8 + (suffix_at image leaf s).len))

unfoldable pub key_buf : List ℕ → ℕ → Slot → ℕ → List ℕ → List ℕ
key_buf image leaf s offset buf =
    let b = store_ikey buf offset (ikey_at image leaf s) in
    pick (leb (keylenx_at image leaf s) 8) b (store_suffix b offset (suffix_bytes image leaf s))

-- "a live key in bounds is put in the cursor and is out, position one on; one out of bounds ends the walk". 02 [12]: "A walk that hands out
-- the key exactly at its end is ended there", so that key is told as the last.
unfoldable pub outcome_on : Side → ℕ → Outcome
outcome_on Inside value = Emit value false
outcome_on AtEnd value = Emit value true
outcome_on Past value = Exhausted

-- The cursor `k` and the buffer hold the key.
unfoldable pub hand_out : List ℕ → ℕ → List ℕ → List ℕ → ScanCtx → Slot → CursorPlace → Pass
hand_out image kind bound buf c s k = record {
  outcome = outcome_on (tested kind bound (take (k.offset + k.len) buf)).side (value_at image c.leaf s);
  ctx = onward c k k.ikey;
}

-- A dead slot's key is stored too, and its bound is not tested.
unfoldable pub emit_key : List ℕ → ℕ → List ℕ → List ℕ → ScanCtx → Slot → CursorPlace → Pass
emit_key image kind bound buf c s k =
    pick (not (live_at image c.leaf s)) (record { outcome = Continue; ctx = onward c k c.last }) (hand_out image kind bound buf c s k)

unfoldable pub take_key : List ℕ → ℕ → List ℕ → List ℕ → ScanCtx → Slot → Taken
take_key image kind bound buf c s =
    let b = key_buf image c.leaf s c.cursor.offset buf in
    record { pass = Ok (emit_key image kind bound b c s (key_place image c.leaf s c.cursor)); buf = b }

-- "A layer: root and leaf stacked, its ikey in the cursor; Down." The loop stacks them, and takes the layer's root.
unfoldable pub take_layer : List ℕ → List ℕ → ScanCtx → Slot → Taken
take_layer image buf c s = record {
  pass = Ok (record {
    outcome = Push (value_at image c.leaf s);
    ctx = stand_at c c.leaf c.position (with_ikey c.cursor (ikey_at image c.leaf s)) Down false c.last;
  });
  buf = store_ikey buf c.cursor.offset (ikey_at image c.leaf s);
}

-- A slot that is new to the walk. "22: .. a `keylenx` of 9 to 63 or 65 to 127 on a slot past the ikey and duplicate tests, a key
-- over 256 bytes, or a layer slot at depth 31."
unfoldable pub take_slot : List ℕ → ℕ → List ℕ → List ℕ → ScanCtx → Slot → Taken
take_slot image kind bound buf c s =
    pick (is_storable image c.leaf s c.cursor.offset) (take_key image kind bound buf c s)
    (pick (ltb (keylenx_at image c.leaf s) 128) (kept buf (Err Unreadable))
    (pick (leb 31 c.depth) (kept buf (Err Unreadable)) (take_layer image buf c s)))

-- The slot at the walk's position, past the duplicate check where that is due.
unfoldable pub unless_dup : Result Bool Decline → List ℕ → ScanCtx → Taken → Taken
unless_dup (Ok false) buf c new = new
unless_dup (Ok true) buf c new = kept buf (Ok (record { outcome = Continue; ctx = onward c c.cursor c.last }))
unless_dup (Err d) buf c new = kept buf (Err d)

-- An ikey below the last one handed out makes the walk look for its place anew.
unfoldable pub back_to_retry : ScanCtx → Pass
back_to_retry c = record { outcome = Continue; ctx = stand_at c c.leaf c.position c.cursor Retry false c.last }

unfoldable pub find_slot : List ℕ → ℕ → List ℕ → List ℕ → ScanCtx → Slot → Taken
find_slot image kind bound buf c s =
    pick (leb 15 s.0) (kept buf (Err Unreadable))
    (pick (ltb (ikey_at image c.leaf s) c.last) (kept buf (Ok (back_to_retry c)))
    (unless_dup (dup_due image buf c s) buf c (take_slot image kind bound buf c s)))

-- "FindNext", with the duplicate check where it is asked for; whatever the pass comes to, the check is spent.
unfoldable pub find_next : List ℕ → ℕ → List ℕ → List ℕ → ScanCtx → Taken
find_next image kind bound buf c =
    pick (not (leaf_there image c.leaf)) (kept buf (Err Unreadable))
    (pick (leb (size_of (permutation_at image c.leaf)) c.position.0) (kept buf (advance_leaf image buf c))
    (find_slot image kind bound buf c (slot_in image c.leaf c.position.0)))

-- One move in each state; before Up the layer above has been taken back.
unfoldable pub pass_in : ScanState → List ℕ → ℕ → List ℕ → List ℕ → ScanCtx → Taken
pass_in (Start mode) image kind bound buf c = find_start mode image buf c
pass_in Retry image kind bound buf c = kept buf (find_retry image buf c)
pass_in FindNext image kind bound buf c = find_next image kind bound buf c
pass_in Down image kind bound buf c = kept buf (Ok (handle_down c))
pass_in Up image kind bound buf c = kept buf (handle_up image buf c)
