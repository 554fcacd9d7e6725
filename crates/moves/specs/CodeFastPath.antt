-- The fast path: the slot at a walk's position where no test of FindNext turns its key away but the bound's. It serves the code alone:
-- proofs/FastLaws.antt has that FindNext hands out that slot's key, or ends by it.
use Rattle.std.specs.Prelude.{◌&&◌, ◌+◌, Option, Some, None}
use Rattle.base.specs.Kit.{true, false, List, ℕ, leb, ltb, take}
use Rattle.base.specs.Pick.{pick}
use Rattle.node.specs.Permuter.{size_of}
use Rattle.node.specs.Layout.{permutation_at, ikey_at, value_at, live_at}
use Rattle.node.specs.declared.leaf.SlotReader.{SlotReader}
use Rattle.moves.specs.Types.{Position, Slot, CursorPlace, HandedKey, Side, Inside, AtEnd, Past, Outcome, Emit, Exhausted}
use Rattle.cursor.specs.RangeBound.{tested}
use Rattle.search.specs.Helper.{slot_in}
use Rattle.moves.specs.Moves.{is_storable}

-- In use, one of fifteen, its ikey not below the last one handed out, which the cursor has, storable and live.
unfoldable pub fast_slot : List ℕ → ℕ → Position → CursorPlace → Option Slot
fast_slot image leaf p k =
    let s = slot_in image leaf p.0 in
    pick (ltb p.0 (size_of (permutation_at image leaf)) && (ltb s.0 15 && (leb k.ikey (ikey_at image leaf s) && (is_storable image leaf s k.offset && live_at image leaf s))))
    (Some s) None

-- The slot of a reader, where there is one.
abbrev pub slot_of : Option SlotReader → Option Slot
slot_of None = None
slot_of (Some s) = Some s.slot

-- What a key that is stored comes to, by the side on which the bound has it: it is out, or none is.
unfoldable pub next_on : Side → ℕ → Option HandedKey
next_on Inside value = Some (record { value = value; last = false })
next_on AtEnd value = Some (record { value = value; last = true })
next_on Past value = None

-- A key that cursor and buffer hold, by the bound.
unfoldable pub next_of : List ℕ → ℕ → List ℕ → List ℕ → ℕ → Slot → CursorPlace → Option HandedKey
next_of image kind bound buf leaf s stored =
    next_on (tested kind bound (take (stored.offset + stored.len) buf)).side (value_at image leaf s)

-- FindNext's outcome where it has come to such a key.
unfoldable pub outcome_of : Option HandedKey → Outcome
outcome_of (Some h) = Emit h.value h.last
outcome_of None = Exhausted
