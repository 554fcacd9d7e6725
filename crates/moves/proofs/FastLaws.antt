-- What the fast path cites: `fast_facts`, what an answer of `fast_slot` says of the image; `fast-next`, that FindNext then comes to what
-- handing out that slot's key does.
use Rattle.std.specs.Prelude.{◌≡◌, ◌+◌, ◌≤◌, ◌<◌, Result, Ok, Option, Some, None}
use Rattle.base.specs.Kit.{refl, ◌∙◌, Bool, true, false, and-eq-true_iff, List, ℕ, take, arith, leb-true, ltb-true, lt-leb, le-ltb, leb, ltb}
use Rattle.base.specs.Pick.{pick}
use Rattle.node.specs.Permuter.{size_of}
use Rattle.node.specs.Layout.{permutation_at, ikey_at, live_at, value_at}
use Rattle.moves.specs.Types.{Decline, Position, Slot, CursorPlace, HandedKey, Side, Inside, AtEnd, Past, ScanCtx}
use Rattle.search.specs.Traversal.{leaf_there}
use Rattle.search.specs.Helper.{slot_in}
use Rattle.search.proofs.TraversalLaws.{not_second}
use Rattle.moves.specs.Moves.{Taken, onward, is_storable, key_place, key_buf, outcome_on, hand_out, emit_key, take_key, take_slot, unless_dup, find_slot, find_next}
use Rattle.cursor.specs.RangeBound.{tested}
use Rattle.moves.specs.CodeFastPath.{outcome_of, fast_slot, next_on, next_of}

-- THE SLOT THAT IS FAST: its position is in use, its ikey is not below the cursor's, and its key is live and can be stored.
pub record Fast (image : List ℕ) (leaf : ℕ) (p : Position) (k : CursorPlace) (s : Slot) : Type 0 where
  pub used : p.0 < size_of (permutation_at image leaf)
  pub slot : s ≡ slot_in image leaf p.0
  pub fifteen : s.0 < 15
  pub not-below : k.ikey ≤ ikey_at image leaf s
  pub storable : is_storable image leaf s k.offset ≡ true
  pub live : live_at image leaf s ≡ true

module _ (image : List ℕ) (leaf : ℕ) (p : Position) (k : CursorPlace) where
  abbrev here : Slot
  here = slot_in image leaf p.0

  abbrev size : ℕ
  size = size_of (permutation_at image leaf)

  pub fast_facts : (s : Slot) → fast_slot image leaf p k ≡ Some s → Fast image leaf p k s
  unfolding fast_slot
  fast_facts s e =
      let slow : ◌≡◌ {A = Option Slot} None (Some s) → ⊥ = λ u. cc in
      let storable = is_storable image leaf here k.offset in
      let t = not_second _ _ _ _ slow e in
      let a = (and-eq-true_iff (ltb p.0 size) _).0 t.0 in
      let b = (and-eq-true_iff (ltb here.0 15) _).0 a.1 in
      let d = (and-eq-true_iff (leb k.ikey (ikey_at image leaf here)) _).0 b.1 in
      let f = (and-eq-true_iff storable (live_at image leaf here)).0 d.1 in
      let same : here ≡ s = cc in
      let facts : Fast image leaf p k here = record {
        used = ltb-true p.0 size a.0;
        slot = refl;
        fifteen = ltb-true here.0 15 b.0;
        not-below = leb-true k.ikey (ikey_at image leaf here) d.0;
        storable = f.0;
        live = f.1;
      } in
      rw same at facts

-- FINDNEXT. What a key that is stored comes to, by the side on which the bound has it: as the code has it, and as its definition does.
on_next : (side : Side) (value : ℕ) → outcome_of (next_on side value) ≡ outcome_on side value
unfolding outcome_of outcome_on next_on
on_next Inside value = refl
on_next AtEnd value = refl
on_next Past value = refl

pub outcome_is : (image : List ℕ) (kind : ℕ) (bound buf : List ℕ) (leaf : ℕ) (s : Slot) (k : CursorPlace)
    → outcome_of (next_of image kind bound buf leaf s k) ≡ outcome_on (tested kind bound (take (k.offset + k.len) buf)).side (value_at image leaf s)
unfolding next_of
outcome_is image kind bound buf leaf s k = on_next _ _

module _ (image : List ℕ) (kind : ℕ) (bound buf : List ℕ) (c : ScanCtx) where
  -- the cursor and the buffer with a slot's key
  abbrev key_of : Slot → CursorPlace
  key_of s = key_place image c.leaf s c.cursor

  abbrev buf_of : Slot → List ℕ
  buf_of s = key_buf image c.leaf s c.cursor.offset buf

  not-due : (due : Bool) (o : Result Bool Decline) (new : Taken) → due ≡ false → unless_dup (pick due o (Ok false)) buf c new ≡ new
  unfolding pick unless_dup
  not-due due o new d = rw d

  module _ (there : leaf_there image c.leaf ≡ true) (d : c.dup ≡ false) (l : c.last ≡ c.cursor.ikey) (s : Slot) (e : fast_slot image c.leaf c.position c.cursor ≡ Some s) where
    facts : Fast image c.leaf c.position c.cursor s
    facts = fast_facts image c.leaf c.position c.cursor s e

    finds_new : find_next image kind bound buf c ≡ take_slot image kind bound buf c s
    unfolding find_next find_slot pick
    finds_new =
        rw (there, lt-leb (size_of (permutation_at image c.leaf)) c.position.0 facts.used, ← facts.slot, lt-leb 15 s.0 facts.fifteen, le-ltb (ikey_at image c.leaf s) c.last (omega (arith, facts.not-below)))
        (not-due _ _ _ d)

    takes-live : take_slot image kind bound buf c s ≡ record { pass = Ok (hand_out image kind bound (buf_of s) c s (key_of s)); buf = buf_of s }
    unfolding take_slot take_key emit_key pick
    takes-live = rw (facts.storable, facts.live)

    -- k and b are what `store_key` answered, o is what `hand_out` did
    pub fast-next : (k : CursorPlace) (b : List ℕ) (o : Option HandedKey) → k ≡ key_of s → b ≡ buf_of s → o ≡ next_of image kind bound b c.leaf s k
        → find_next image kind bound buf c ≡ record { pass = Ok (record { outcome = outcome_of o; ctx = onward c k k.ikey }); buf = b }
    unfolding hand_out
    fast-next k b o ek eb eo = finds_new ∙ takes-live ∙ rw (eo, outcome_is image kind bound b c.leaf s k, ek, eb) refl
