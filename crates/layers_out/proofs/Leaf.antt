-- ONE LEAF: its parts laid, its record behind them, the previous leaf's `next` set, is the leaf written. Assumes that its slots can be
-- written, and that there is room.
use Rattle.std.specs.Prelude.{◌≡◌, ◌∷◌, ◌+◌, ◌-◌, ◌≤◌}
use Rattle.base.specs.Kit.{Bool, true, false, leb-true, refl, ap, ◌∙◌, List, [], map, ℕ, arith, leb, length, get_or, dec_le}
use Rattle.base.specs.Pick.{pick}
use Rattle.layering.specs.Tree.{Fields, Slots, none, value, layer}
use Rattle.layering.specs.Accepted.{end_n, end_s}
use Rattle.building.specs.Shape.{size_s, join_s, leaf_of, first_ikey_s, first_ikey_n}
use Rattle.building.specs.Build.{stands_at, start_at, root_at, placed_n, placed_s, fields_s, leaf_bytes, bytes_s}
use Rattle.building.specs.CodeOrder.{leaves_l, limit, filled, after}
use Rattle.building.specs.CodeWritten.{put, last_n, linked}
use Rattle.building.specs.CodeLaid.{Laid, laid}
use Rattle.building.proofs.Plain.{PlainS, length_s, leaf_bytes-length}
use Rattle.building.proofs.Fill.{join_size}
use Rattle.building.proofs.Sizes.{shift_s}
use Rattle.building.proofs.Placed.{size_s-bytes, grow_s}
use Rattle.building.proofs.Puts.{put-length}
use Rattle.building.proofs.Laid.{laid-at, laid-count, laid-whole, leaf-written}
use Rattle.groups.specs.CodeLines.{slots_in}
use Rattle.image_out.specs.CodeRows.{slots_of, fresh_head, HoldsSlots}
use Rattle.layers_out.specs.CodeCycle.{Room, leaf_at, Wrote, GroupsLaid}
use Rattle.image_out.proofs.Rows.{slots-first}
use Rattle.layers_out.specs.declared.run.Run.{Run}
use Rattle.layers_out.specs.declared.run.Parts.{Parts}
use Rattle.layers_out.proofs.Lines.{filled_ok}

-- a leaf takes no more slots than it has room for
pub filled_size : (r : ℕ) (gs : List Slots) → size_s (filled r gs) ≤ r
unfolding filled size_s pick
filled_size r [] = omega arith
filled_size r (g ∷ gs) = go (leb (size_s g) r) refl (filled_size (r - size_s g) gs)
  where
    go : (t : Bool) → leb (size_s g) r ≡ t → size_s (filled (r - size_s g) gs) ≤ r - size_s g → size_s (pick t (join_s g (filled (r - size_s g) gs)) none) ≤ r
    go true e h = omega (arith, join_size g (filled (r - size_s g) gs), leb-true (size_s g) r e)
    go false e h = omega arith

-- the first ikey is that of the first slot
first_field : (s : Slots) (at : ℕ) → get_or (map (λ (f : Fields). f.ikey) (fields_s (placed_s at s))) 0 0 ≡ first_ikey_s s
unfolding fields_s placed_n first_ikey_s start_at root_at
first_field none at = refl
first_field (value s r) at = refl
first_field (layer s n r) at = refl

-- THE LEAF
module _ (out : List ℕ) (r : Run) (m : ℕ) where
  abbrev gs : List Slots
  gs = slots_in r.lines

  abbrev parts : Laid
  parts = laid (record { out = out; at = r.at; fields = [] }) (filled 15 gs)

  module _ (p : PlainS m (filled 15 gs)) (fits : end_s r.at (filled 15 gs) + 400 ≤ length out) where
    pub laid-length : length parts.out ≡ length out
    laid-length =
        let e = laid-whole (filled 15 gs) m (record { out = out; at = r.at; fields = [] }) p (omega arith) in
        let n : r.at + length (bytes_s (placed_s r.at (filled 15 gs))) ≡ end_s r.at (filled 15 gs) =
        ap (λ (y : ℕ). r.at + y) (size_s-bytes (filled 15 gs) r.at) ∙ length_s (filled 15 gs) m r.at p in
        rw e (put-length out (bytes_s (placed_s r.at (filled 15 gs))) r.at (omega arith))

    pub leaf_wrote : (out₁ out₂ out₃ : List ℕ) (q : Parts) → GroupsLaid r.lines out₁ q parts
        → ((fs : List Fields) → q.slotted.slots ≡ slots_of fs → out₂ ≡ put out₁ q.slotted.at (leaf_bytes (fresh_head q.slotted.at (length fs)) fs))
        → out₃ ≡ linked r.prev q.slotted.at out₂ → (few : leaves_l (slots_in q.lines) ≤ limit)
        → Wrote 1 out out₃ r
        (record { at = q.slotted.at + 400; lines = q.lines; prev = q.slotted.at; node = q.slotted.at; first = get_or q.slotted.slots.ikeys 0 0; few = few })
        (leaf_at r.lines)
    unfolding end_n leaf_of stands_at last_n first_ikey_n after
    leaf_wrote out₁ out₂ out₃ q g e f few =
        let a : q.slotted.at ≡ end_s r.at (filled 15 gs) = g.at ∙ laid-at (record { out = out; at = r.at; fields = [] }) (filled 15 gs) in
        let w = laid-whole (filled 15 gs) m (record { out = out; at = r.at; fields = [] }) p (omega arith) in
        let fs : parts.fields ≡ fields_s (placed_s r.at (filled 15 gs)) = ap (λ (l : Laid). l.fields) w in
        record {
          bytes = f ∙ ap (linked r.prev q.slotted.at) (e parts.fields g.slots) ∙ (rw (g.bytes, g.at) (leaf-written (filled 15 gs) m out r.at r.prev p fits));
          at = ap (λ (y : ℕ). y + 400) a;
          node = a;
          prev = a ∙ shift_s (filled 15 gs) r.at;
          first = slots-first q.slotted.slots parts.fields g.slots ∙ ap (λ (l : List Fields). get_or (map (λ (f : Fields). f.ikey) l) 0 0) fs ∙ first_field (filled 15 gs) r.at;
          rest = record { below = g.below; slots = g.rest };
        }

-- WHAT THE CODE ASKS on its way: room for the parts, for the record and for the link
module _ (out : List ℕ) (r : Run) (room : Room out r.at r.prev (end_n r.at (leaf_at r.lines))) where
  abbrev slots : Slots
  slots = filled 15 (slots_in r.lines)

  fits : end_s r.at slots + 400 ≤ length out
  unfolding end_n leaf_of
  fits = room.fits

  pub groups-room : Room out r.at 0 (end_s r.at slots)
  groups-room = record { some = room.some; behind = λ z. absurd (z refl); fits = omega (arith, fits); short = room.short }

  plain : PlainS r.lines.below slots
  plain = filled_ok r.lines r.few 15

  module _ (out₁ : List ℕ) (q : Parts) (l : GroupsLaid r.lines out₁ q (laid (record { out = out; at = r.at; fields = [] }) slots)) where
    place : q.slotted.at ≡ end_s r.at slots
    place = l.at ∙ laid-at (record { out = out; at = r.at; fields = [] }) slots

    long : length out₁ ≡ length out
    long = ap length l.bytes ∙ laid-length out r r.lines.below plain fits

    pub record-fits : q.slotted.at + 400 ≤ length out₁
    record-fits = omega (arith, place, long, fits)

    pub slots_held : HoldsSlots 15 q.slotted.slots
    slots_held =
        record {
          fields = (laid (record { out = out; at = r.at; fields = [] }) slots).fields;
          same = l.slots;
          few = omega (arith, laid-count (record { out = out; at = r.at; fields = [] }) slots, filled_size 15 (slots_in r.lines));
        }

    module _ (out₂ : List ℕ) (e : (fs : List Fields) → q.slotted.slots ≡ slots_of fs → out₂ ≡ put out₁ q.slotted.at (leaf_bytes (fresh_head q.slotted.at (length fs)) fs)) where
      kept : length out₂ ≡ length out₁
      kept =
          let fs : List Fields = slots_held.fields in
          let n : length (leaf_bytes (fresh_head q.slotted.at (length fs)) fs) ≡ 400 = leaf_bytes-length (fresh_head q.slotted.at (length fs)) fs in
          ap length (e fs slots_held.same) ∙ put-length out₁ (leaf_bytes (fresh_head q.slotted.at (length fs)) fs) q.slotted.at (omega (arith, record-fits))

      pub link_fits : r.prev + 400 ≤ length out₂
      link_fits = go (dec_le r.prev 0)
        where
          go : Dec (r.prev ≤ 0) → r.prev + 400 ≤ length out₂
          go (yes z) = omega (arith, kept, long, fits)
          go (no z) = omega (arith, kept, long, fits, room.behind (λ e. omega arith), grow_s slots r.at)

      pub leaf-is : (out₃ : List ℕ) → out₃ ≡ linked r.prev q.slotted.at out₂ → (few : leaves_l (slots_in q.lines) ≤ limit)
          → Wrote 1 out out₃ r
          (record { at = q.slotted.at + 400; lines = q.lines; prev = q.slotted.at; node = q.slotted.at; first = get_or q.slotted.slots.ikeys 0 0; few = few })
          (leaf_at r.lines)
      leaf-is out₃ f few = leaf_wrote out r r.lines.below plain fits out₁ out₂ out₃ q l e f few

-- what a leaf rests on
pub ruleset leaf_rules = (groups-room, record-fits)
