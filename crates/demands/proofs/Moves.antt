-- What a move comes to where no fault is met: over a leaf in order each pass of FindNext is one of six, and the
-- duplicate check goes by rank. Each lemma takes one test's way through the definitions of the machine.
use Rattle.std.specs.Prelude.{◌≡◌, ◌+◌, ◌*◌, ◌≤◌, ◌<◌, Result, Ok}
use Rattle.base.specs.Kit.{refl, ap, ◌∙◌, List, Bool, true, false, ℕ, min, arith, leb, ltb, le-ltb, le-leb, lt-leb, eq-eqb, ne_eqb}
use Rattle.base.specs.Pick.{pick}
use Rattle.base.specs.Decline.{and_then}
use Rattle.key.specs.Order.{order, then}
use Rattle.demands.specs.Types.{Ordering, OrderingLess as Less, OrderingEqual as Equal, OrderingGreater as Greater, Slot, CursorPlace, FindNext, Up, ScanCtx, Continue, Decline}
use Rattle.key.proofs.Order.{Cmp, is_lt, is_eq, is_gt, cmp}
use Rattle.node.specs.Layout.{next_at}
use Rattle.cursor.specs.CursorKey.{compare_slot}
use Rattle.layering.specs.Tree.{Fields, fields_at}
use Rattle.layering.proofs.Part.{slot_rank}
use Rattle.search.specs.Traversal.{leaf_there}
use Rattle.search.specs.Helper.{position, slot_in, by_order, lower_with_suffix}
use Rattle.moves.specs.Moves.{stand_at, standing, advance_leaf, dup_of, kept, onward, is_storable, take_key, take_layer, take_slot, unless_dup, find_slot, find_next}
use Rattle.demands.proofs.Leaf.{cursor_rank, used_in, rank_at, LeafOk}
use Rattle.demands.proofs.Search.{no-suffix}

-- The slot at a walk's position: its number, and what it says.
abbrev pub slot_no : List ℕ → ScanCtx → Slot
slot_no image c = slot_in image c.leaf c.position.0

abbrev pub slot_of : List ℕ → ScanCtx → Fields
slot_of image c = fields_at image c.leaf c.position.0

-- THE DUPLICATE CHECK on numbers.
compare_less : (k : CursorPlace) (x klx : ℕ) → k.ikey < x → compare_slot k x klx ≡ Less
unfolding compare_slot then
compare_less k x klx h =
    go (pick (ltb 8 k.len) (pick (leb klx 8) Greater Equal) (order k.len klx)) (cmp k.ikey x)
  where
    go : {o : Ordering} (q : Ordering) → Cmp k.ikey x o → then o q ≡ Less
    go q (is_lt a) = refl
    go q (is_eq a) = absurd (omega arith)
    go q (is_gt a) = absurd (omega arith)

-- for a cursor of at most eight bytes
module _ (k : CursorPlace) (hl : k.len ≤ 8) (x klx : ℕ) where
  by_length : compare_slot k x klx ≡ then (order k.ikey x) (order k.len klx)
  unfolding compare_slot pick
  by_length = rw (le-ltb 8 k.len hl)

  compare_above : cursor_rank k < x * 16 + min klx 9 → compare_slot k x klx ≡ Less
  unfolding then
  compare_above h = by_length ∙ go (cmp k.ikey x) (cmp k.len klx)
    where
      go : {o q : Ordering} → Cmp k.ikey x o → Cmp k.len klx q → then o q ≡ Less
      go (is_lt a) b = refl
      go (is_eq a) (is_lt b) = refl
      go (is_eq a) (is_eq b) = absurd (omega arith)
      go (is_eq a) (is_gt b) = absurd (omega arith)
      go (is_gt a) b = absurd (omega arith)

  compare_same : x * 16 + min klx 9 ≡ cursor_rank k → compare_slot k x klx ≡ Equal
  unfolding then
  compare_same h = by_length ∙ go (cmp k.ikey x) (cmp k.len klx)
    where
      go : {o q : Ordering} → Cmp k.ikey x o → Cmp k.len klx q → then o q ≡ Equal
      go (is_lt a) b = absurd (omega arith)
      go (is_eq a) (is_lt b) = absurd (omega arith)
      go (is_eq a) (is_eq b) = refl
      go (is_eq a) (is_gt b) = absurd (omega arith)
      go (is_gt a) b = absurd (omega arith)

-- The duplicate check where it is due, at the walk's position: what FindNext goes by.
unfoldable pub dup_at : List ℕ → List ℕ → ScanCtx → Result Bool Decline
dup_at image buf c = pick c.dup (dup_of image buf c (slot_no image c)) (Ok false)

module _ (image buf : List ℕ) (c : ScanCtx) where
  -- not due
  pub dup_off : c.dup ≡ false → dup_at image buf c ≡ Ok false
  unfolding dup_at pick
  dup_off e = ap (λ (b : Bool). pick b (dup_of image buf c (slot_no image c)) (Ok false)) e

  dup_new : compare_slot c.cursor (slot_of image c).ikey (slot_of image c).keylenx ≡ Less → dup_at image buf c ≡ Ok false
  unfolding dup_at dup_of by_order fields_at pick
  dup_new e = go c.dup
    where
      go : (b : Bool) → pick b (dup_of image buf c (slot_no image c)) (Ok false) ≡ Ok false
      go true = rw e
      go false = refl

  pub dup_less : c.cursor.ikey < (slot_of image c).ikey → dup_at image buf c ≡ Ok false
  dup_less h = dup_new (compare_less c.cursor _ _ h)

  pub dup_no : c.cursor.len ≤ 8 → cursor_rank c.cursor < rank_at image c.leaf c.position.0
      → dup_at image buf c ≡ Ok false
  unfolding rank_at slot_rank
  dup_no n h = dup_new (compare_above c.cursor n _ _ h)

  pub dup_yes : c.dup ≡ true → c.cursor.len ≤ 8 → rank_at image c.leaf c.position.0 ≡ cursor_rank c.cursor
      → dup_at image buf c ≡ Ok true
  unfolding dup_at dup_of by_order fields_at pick rank_at slot_rank
  dup_yes e n h =
      ap (λ (b : Bool). pick b (dup_of image buf c (slot_no image c)) (Ok false)) e
      ∙ rw (compare_same c.cursor n (slot_of image c).ikey (slot_of image c).keylenx h, no-suffix c.cursor n)

-- THE PASSES OF FINDNEXT
module _ (image : List ℕ) (kind : ℕ) (bound buf : List ℕ) (c : ScanCtx) (ok : LeafOk image c.leaf) where
  -- past the last slot of the leaf
  pub find_end : used_in image c.leaf ≤ c.position.0
      → find_next image kind bound buf c ≡ kept buf (advance_leaf image buf c)
  unfolding find_next pick
  find_end h = rw (ok.there, le-leb (used_in image c.leaf) c.position.0 h)

  module _ (used : c.position.0 < used_in image c.leaf) where
    find_slot_lem : c.last ≤ (slot_of image c).ikey
        → find_next image kind bound buf c ≡ unless_dup (dup_at image buf c) buf c (take_slot image kind bound buf c
        (slot_no image c))
    unfolding find_next find_slot pick fields_at dup_at
    find_slot_lem h =
        rw (
          ok.there,
          lt-leb (used_in image c.leaf) c.position.0 used,
          lt-leb 15 (slot_no image c).0 (ok.slots c.position.0 used),
          le-ltb (slot_of image c).ikey c.last h,
        )

    -- a slot that is new to the walk, and one that it has come to
    pub find_new : c.last ≤ (slot_of image c).ikey → dup_at image buf c ≡ Ok false
        → find_next image kind bound buf c ≡ take_slot image kind bound buf c (slot_no image c)
    unfolding unless_dup
    find_new h d = find_slot_lem h ∙ rw d

    pub find_old : c.last ≤ (slot_of image c).ikey → dup_at image buf c ≡ Ok true
        → find_next image kind bound buf c
        ≡ kept buf (Ok (record { outcome = Continue; ctx = onward c c.cursor c.last }))
    unfolding unless_dup
    find_old h d = find_slot_lem h ∙ rw d

    -- the three kinds of slot
    pub take_inline : (slot_of image c).keylenx ≤ 8
        → take_slot image kind bound buf c (slot_no image c) ≡ take_key image kind bound buf c (slot_no image c)
    unfolding take_slot is_storable pick fields_at
    take_inline h = rw (le-leb (slot_of image c).keylenx 8 h)

    pub take_suffixed : (slot_of image c).keylenx ≡ 64 → c.cursor.offset + 8 + (slot_of image c).len ≤ 256
        → take_slot image kind bound buf c (slot_no image c) ≡ take_key image kind bound buf c (slot_no image c)
    unfolding take_slot is_storable pick fields_at
    take_suffixed h f =
        rw (
          lt-leb (slot_of image c).keylenx 8 (omega arith),
          eq-eqb (slot_of image c).keylenx 64 h,
          ok.suffixes c.position.0 used h,
          le-leb (c.cursor.offset + 8 + (slot_of image c).len) 256 f,
        )

    pub take-layer : 128 ≤ (slot_of image c).keylenx → c.depth < 31
        → take_slot image kind bound buf c (slot_no image c) ≡ take_layer image buf c (slot_no image c)
    unfolding take_slot is_storable pick fields_at
    take-layer h d =
        rw (
          lt-leb (slot_of image c).keylenx 8 (omega arith),
          ne_eqb (slot_of image c).keylenx 64 (λ e. omega arith),
          le-ltb (slot_of image c).keylenx 128 h,
          lt-leb 31 c.depth d,
        )

-- past the last leaf of the layer, and on to the next
pub advance_up : (image buf : List ℕ) (c : ScanCtx) → next_at image c.leaf ≡ 0
    → advance_leaf image buf c
    ≡ Ok (record { outcome = Continue; ctx = stand_at c c.leaf c.position c.cursor Up false c.last })
unfolding advance_leaf pick
advance_up image buf c e = rw (eq-eqb (next_at image c.leaf) 0 e)

pub advance-on : (image buf : List ℕ) (c : ScanCtx) (m : ℕ) → next_at image c.leaf ≡ m → 0 < m
    → leaf_there image m ≡ true → lower_with_suffix image m c.cursor buf ≡ Ok (position 0)
    → advance_leaf image buf c
    ≡ Ok (record { outcome = Continue; ctx = stand_at c m (position 0) c.cursor FindNext false c.last })
unfolding advance_leaf pick standing and_then
advance-on image buf c m e h t z = rw (e, ne_eqb m 0 (λ q. omega arith), t, z)
