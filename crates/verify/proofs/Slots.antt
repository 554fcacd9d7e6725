-- The check of a leaf's slots ends without a fault exactly where the rules hold of them: by recursion on the slots left. The
-- check of a layer below comes in as a function, with what is known of it.
use Rattle.std.specs.Prelude.{◌&&◌, ◌≡◌, ◌+◌, ◌^◌, ◌≤◌, ◌<◌, None, Ok, Err}
use Rattle.base.specs.Kit.{Bool, true, false, not, List, refl, subst, ℕ, zero, suc, add-one, arith, leb, eqb, length, leb-true, leb-false, le-leb, lt-leb, eqb-true, eqb-false}
use Rattle.base.specs.Pick.{pick}
use Rattle.base.proofs.Choice.{pick_ind, by_test}
use Rattle.layering.specs.Tree.{Fields, fields_at, Node, Slots, none, value, layer, slots_from}
use Rattle.layering.specs.Accepted.{room, end_n, end_s, InPostOrderS, ShortPathsS, Before, BeforeFirst, AscendS, InRangeS, LinkedN, LinkedS, FieldsS}
use Rattle.layering.proofs.Size.{leaves_fit_s}
use Rattle.verify.specs.Types.{RecordPlace, SlotLength, SlotKey, SlotOrder, Progress}
use Rattle.verify.specs.Check.{Checked, each, pass_value, enter_layer, leave_layer, listed, fits, in_order, in_range, suffix_c, layer_slot_c, slot_c}
use Rattle.std.proofs.lemmas.Bool.Decides.{Decides-and, Decides-eqb}
use Rattle.verify.proofs.Going.{says-leb, says_self, Runs, runs_as, runs_to, runs_here, runs_test, runs-demand, runs_then}
use Rattle.verify.proofs.Fields.{value-kind, kind-value, layer-kind, kind-layer, says-before, says_range}
use Rattle.verify.proofs.Places.{last_n, linked-last_n, Within, room_aligned, aligned_n}
use Rattle.verify.proofs.Sound.{after_n, after_s, behind, after_none, after-value, after-layer, Underway, SoundN, SoundS}

-- The rules for a layer.
pub record SoundLayer (image : List ℕ) (depth : ℕ) (p : Progress) (n : Node) : Type 0 where
  pub sound : SoundN image depth 0 (2 ^ 64) p n
  pub ends : last_n n ≡ 0

-- A check of layers does what it should.
abbrev pub Layers : List ℕ → ℕ → (ℕ → Progress → Checked) → (ℕ → Node) → Type 0
Layers image depth sub tree =
    (root : ℕ) (p : Progress) → Underway image p → p.next ≡ None
    → Runs (sub root p) (SoundLayer image depth p (tree root)) (after_n p (tree root))

-- The rules for the slots of a leaf from position i on, n of them, the first behind the slot before it.
pub record SlotsOk (image : List ℕ) (depth at lo hi i n : ℕ) (p : Progress) (s : Slots) : Type 0 where
  pub sound : SoundS image depth at lo hi p s
  pub order : 0 < n → in_order image at i ≡ true

-- behind a value slot
abbrev passed : Fields → Progress → Progress
passed s p = pass_value (room s) s.live p

-- A suffix lies at the place reached and ends before its leaf.
unfoldable Suffixed : ℕ → Fields → Progress → Type 0
Suffixed at s p = s.keylenx ≡ 64 → (s.start ≡ p.place) × (s.start + s.len ≤ at)

suffix_runs : (at : ℕ) (s : Fields) (p : Progress)
    → Runs (pick (eqb s.keylenx 64) (suffix_c at s p) (Ok (pass_value 0 s.live p))) (Suffixed at s p) (passed s p)
unfolding Suffixed suffix_c room pick
suffix_runs at s p = go (eqb s.keylenx 64) refl
  where
    go : (b : Bool) → eqb s.keylenx 64 ≡ b → Runs (pick b (suffix_c at s p) (Ok (pass_value 0 s.live p))) (Suffixed at s p) (passed s p)
    go true e =
        runs_as (λ h q. h) (λ h. h (eqb-true _ _ e))
        (runs-demand RecordPlace (passed s p) (Decides-and _ _ (Decides-eqb s.start p.place) (says-leb (s.start + s.len) at)))
    go false e = rw e (runs_as (λ h q. absurd (eqb-false _ _ e q)) (λ h. tt) (runs_here (pass_value 0 s.live p)))

-- the place behind it is before the trailer, as its leaf is
suffix-before : {n : ℕ} (at : ℕ) (s : Fields) (p : Progress) → at + 432 ≤ n → p.place + 32 ≤ n → Suffixed at s p
    → p.place + room s + 32 ≤ n
unfolding Suffixed room
suffix-before {n} at s p b h f =
    pick_ind (λ (r : ℕ). p.place + r + 32 ≤ n) (eqb s.keylenx 64)
    (λ e. omega (arith, (f (eqb-true _ _ e)).0, (f (eqb-true _ _ e)).1)) (λ e. omega arith)

module _ (image : List ℕ) (sub : ℕ → Progress → Checked) (tree : ℕ → Node) (depth at lo hi : ℕ)
    (layers : Layers image (depth + 1) sub tree) where
  -- the slot at a position, and the layer below it
  abbrev slot : ℕ → Fields
  slot i = fields_at image at i

  abbrev below : ℕ → Node
  below i = tree (slot i).value

  -- ONE SLOT: its tests, then what is asked of its kind.
  record Tested (i : ℕ) (S : Type 0) : Type 0 where
    kind : (listed depth (slot i) ≡ true) × (fits depth (slot i) ≡ true)
    order : in_order image at i ≡ true
    range : (lo ≤ (slot i).ikey) × ((slot i).ikey < hi)
    part : S

  tested : {S : Type 0} {x : Checked} {q : Progress} (i : ℕ) → Runs x S q
      → Runs (pick (not (listed depth (slot i))) (Err SlotLength) (pick (not (fits depth (slot i))) (Err SlotKey)
      (pick (not (in_order image at i && in_range lo hi (slot i))) (Err SlotOrder) x))) (Tested i S) q
  tested i r =
      let ordered = runs_test SlotOrder (Decides-and _ _ (says_self (in_order image at i)) (says_range lo hi (slot i))) (λ h. r) in
      let fitting = runs_test SlotKey (says_self (fits depth (slot i))) (λ h. ordered) in
      runs_as (λ h. search) (λ h. search)
      (runs_test SlotLength (says_self (listed depth (slot i))) (λ h. fitting))

  value_runs : (i : ℕ) (p : Progress) → (slot i).keylenx < 128
      → Runs (slot_c sub image depth at lo hi i p) (Tested i (Suffixed at (slot i) p)) (passed (slot i) p)
  unfolding slot_c pick
  value_runs i p small = rw (lt-leb 128 (slot i).keylenx small) (tested i (suffix_runs at (slot i) p))

  layer_runs : (i : ℕ) (p : Progress) → Underway image p → 128 ≤ (slot i).keylenx
      → Runs (slot_c sub image depth at lo hi i p) (Tested i (SoundLayer image (depth + 1) (enter_layer p) (below i))) (behind p (below i))
  unfolding slot_c pick layer_slot_c behind after_n
  layer_runs i p r big =
      let entered : Underway image (enter_layer p) = record { aligned = r.aligned; before = r.before } in
      rw (le-leb 128 (slot i).keylenx big) (tested i (runs_as (λ h. h.0) (λ h. (h, tt))
      (runs_then (λ q. Ok (leave_layer p q)) (layers (slot i).value (enter_layer p) entered refl) (λ s. runs_here _))))

  -- a slot stands before the next where that one is in order
  next-order : (i n : ℕ) → (0 < n → in_order image at (i + 1) ≡ true) → BeforeFirst (slot i) (slots_from tree image at (i + 1) n)
  unfolding BeforeFirst slots_from in_order
  next-order i zero h = tt
  next-order i (suc n) h = pick_ind (BeforeFirst (slot i)) (leb 128 (slot (i + 1)).keylenx) (λ e. follows) (λ e. follows)
    where
      follows : Before (slot i) (slot (i + 1))
      follows = rw add-one ((says-before (slot i) (slot (suc i))).0 (rw add-one at (h (omega arith))))

  order-next : (i n : ℕ) → BeforeFirst (slot i) (slots_from tree image at (i + 1) n) → 0 < n → in_order image at (i + 1) ≡ true
  unfolding BeforeFirst slots_from in_order
  order-next i zero b h = absurd (omega arith)
  order-next i (suc n) b h = rw add-one ((says-before (slot i) (slot (suc i))).1 (rw add-one at (follows b)))
    where
      follows : BeforeFirst (slot i) (slots_from tree image at (i + 1) (suc n)) → Before (slot i) (slot (i + 1))
      follows =
          pick_ind (λ (s : Slots). BeforeFirst (slot i) s → Before (slot i) (slot (i + 1))) (leb 128 (slot (i + 1)).keylenx)
          (λ e q. q) (λ e q. q)

  -- THE SLOTS from position i on, n of them.
  abbrev slots_c : ℕ → ℕ → Progress → Checked
  slots_c i n p = each (slot_c sub image depth at lo hi) i n p

  abbrev Sound : ℕ → ℕ → Progress → Slots → Type 0
  Sound i n p s = SlotsOk image depth at lo hi i n p s

  abbrev Slotted : ℕ → ℕ → Progress → Type 0
  Slotted i n p = Runs (slots_c i n p) (Sound i n p (slots_from tree image at i n)) (after_s p (slots_from tree image at i n))

  module _ (in_image : at + 432 ≤ length image) (i n : ℕ) (p : Progress) (r : Underway image p)
      (rest : (q : Progress) → Underway image q → Slotted (i + 1) n q) where
    abbrev others : Slots
    others = slots_from tree image at (i + 1) n

    value-more : (slot i).keylenx < 128 → Slotted i (suc n) p
    unfolding each slots_from pick InPostOrderS Within end_s ShortPathsS AscendS InRangeS LinkedS FieldsS Suffixed SoundS
    value-more small =
        rw (lt-leb 128 (slot i).keylenx small)
        (runs_to (after-value p (slot i) others) (runs_as to from
        (runs_then (slots_c (i + 1) n) (value_runs i p small) (λ h. rest (passed (slot i) p) (ready h.part)))))
      where
        ready : Suffixed at (slot i) p → Underway image (passed (slot i) p)
        ready h = record {
          aligned = omega (arith, r.aligned, room_aligned (slot i));
          before = suffix-before at (slot i) p in_image r.before h;
        }

        Parts : Type 0
        Parts = Tested i (Suffixed at (slot i) p) × Sound (i + 1) n (passed (slot i) p) others

        to : Parts → Sound i (suc n) p (value (slot i) others)
        to (t, s) =
            let first = next-order i n s.order in
            let kind = value-kind depth (slot i) small t.kind in
            let start : (slot i).keylenx ≡ 64 → (slot i).start ≡ p.place = λ e. (t.part e).0 in
            let end : (slot i).keylenx ≡ 64 → (slot i).start + (slot i).len ≤ at = λ e. (t.part e).1 in
            search

        from : Sound i (suc n) p (value (slot i) others) → Parts
        from h =
            let kind = kind-value depth (slot i) h.sound.fields.0 in
            let order = h.order (omega arith) in
            let next = order-next i n h.sound.ascend.0 in
            let part : Suffixed at (slot i) p = λ e. (h.sound.post.0 e, h.sound.within.0 e) in
            search

    layer-more : 128 ≤ (slot i).keylenx → Slotted i (suc n) p
    unfolding each slots_from pick InPostOrderS Within end_s ShortPathsS AscendS InRangeS LinkedS FieldsS behind leave_layer after_n SoundN SoundS
    layer-more big =
        rw (le-leb 128 (slot i).keylenx big)
        (runs_to (after-layer p (slot i) (below i) others) (runs_as to from
        (runs_then (slots_c (i + 1) n) (layer_runs i p r big) (λ h. rest (behind p (below i)) (ready h.part)))))
      where
        ready : SoundLayer image (depth + 1) (enter_layer p) (below i) → Underway image (behind p (below i))
        ready h = record { aligned = aligned_n (below i) p.place r.aligned; before = h.sound.before }

        Parts : Type 0
        Parts = Tested i (SoundLayer image (depth + 1) (enter_layer p) (below i)) × Sound (i + 1) n (behind p (below i)) others

        to : Parts → Sound i (suc n) p (layer (slot i) (below i) others)
        to (t, s) =
            let first = next-order i n s.order in
            let deep = layer-kind depth (slot i) big t.kind.1 in
            let links = subst (λ (x : ℕ). LinkedN x (below i)) t.part.ends t.part.sound.links in
            search

        from : Sound i (suc n) p (layer (slot i) (below i) others) → Parts
        from h =
            let kind = kind-layer depth (slot i) big h.sound.fields.0 in
            let order = h.order (omega arith) in
            let next = order-next i n h.sound.ascend.0 in
            let ends : last_n (below i) ≡ 0 = linked-last_n (below i) 0 h.sound.links.0 in
            let links : LinkedN (last_n (below i)) (below i) = rw ends h.sound.links.0 in
            let before : end_n p.place (below i) + 32 ≤ length image =
            omega (arith, h.sound.before, leaves_fit_s others (end_n p.place (below i))) in
            search

  pub slots-run : at + 432 ≤ length image → (n i : ℕ) (p : Progress) → Underway image p
      → Runs (each (slot_c sub image depth at lo hi) i n p) (SlotsOk image depth at lo hi i n p (slots_from tree image at i n))
      (after_s p (slots_from tree image at i n))
  unfolding each slots_from InPostOrderS Within end_s ShortPathsS AscendS InRangeS LinkedS FieldsS SoundS
  slots-run in_image zero i p r = runs_to (after_none p) (runs_as (λ h. nothing) (λ h. tt) (runs_here p))
    where
      nothing : Sound i 0 p none
      nothing = let order : 0 < 0 → in_order image at i ≡ true = λ l. absurd (omega arith) in search tt
  slots-run in_image (suc n) i p r =
      by_test (leb 128 (slot i).keylenx) (λ e. layer-more in_image i n p r (slots-run in_image n (i + 1)) (leb-true _ _ e))
      (λ e. value-more in_image i n p r (slots-run in_image n (i + 1)) (leb-false _ _ e))
