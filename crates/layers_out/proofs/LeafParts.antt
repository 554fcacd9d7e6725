-- THE PARTS OF A LEAF, group by group: what is left, laid from here, comes to the same as the whole. Assumes nothing.
use Rattle.std.specs.Prelude.{◌≡◌, ◌∷◌, ◌+◌, ◌-◌, ◌≤◌, ◌<◌}
use Rattle.base.specs.Kit.{refl, ap, sym, ◌∙◌, List, [], ℕ, arith, length}
use Rattle.layering.specs.Tree.{Fields, Slots, none}
use Rattle.layering.specs.Accepted.{end_s}
use Rattle.building.specs.Shape.{size_s, join_s}
use Rattle.building.specs.CodeOrder.{leaves_l, limit, filled, left}
use Rattle.building.specs.CodeLaid.{Laid, laid}
use Rattle.building.proofs.Order.{fills, stops}
use Rattle.building.proofs.Laid.{laid_join, laid-at, laid-count}
use Rattle.building.proofs.Placed.{grow_s}
use Rattle.groups.specs.declared.LayerLines.{LayerLines}
use Rattle.groups.specs.CodeLines.{slots_in}
use Rattle.image_out.specs.CodeRows.{slots_of, HoldsSlots}
use Rattle.layers_out.specs.CodeCycle.{Room, GroupsLaid}
use Rattle.slots_out.specs.CodeSlots.{GroupLaid}
use Rattle.slots_out.specs.declared.Slotted.{Slotted}

pub whole-fits : (out : List ℕ) (at : ℕ) (s : Slots) → end_s at s ≤ length out → (laid (record { out = out; at = at; fields = [] }) s).at ≤ length out
whole-fits out at s h = rw (laid-at (record { out = out; at = at; fields = [] }) s) h

-- The loop's invariant: the parts so far, and what is left, which laid from here on comes to `whole` and leaves the groups `rest`.
pub record PartsSoFar (below : ℕ) (whole : Laid) (rest : List Slots) (size : ℕ) (out : List ℕ) (now : LayerLines) (leaf : Slotted) : Type 0 where
  pub fields : List Fields
  pub slots : leaf.slots ≡ slots_of fields
  pub few : length fields ≤ 15
  pub below_same : now.below ≡ below
  pub few_left : leaves_l (slots_in now) ≤ limit
  pub some : 0 < leaf.at
  pub same : laid (record { out = out; at = leaf.at; fields = fields }) (filled (15 - length fields) (slots_in now)) ≡ whole
  pub lines : left (15 - length fields) (slots_in now) ≡ rest
  pub long : length out ≡ size

module _ (below : ℕ) (whole : Laid) (rest : List Slots) (size : ℕ) (out : List ℕ) (now : LayerLines) (leaf : Slotted) (i : PartsSoFar below whole rest size out now leaf) where
  abbrev here : Laid
  here = record { out = out; at = leaf.at; fields = i.fields }

  abbrev gs : List Slots
  gs = slots_in now

  -- what is left ends where the whole does
  pub end_same : end_s leaf.at (filled (15 - length i.fields) gs) ≡ whole.at
  end_same = sym (laid-at here (filled (15 - length i.fields) gs)) ∙ ap (λ (l : Laid). l.at) i.same

  -- no more is taken
  no_more : filled (15 - length i.fields) gs ≡ none → left (15 - length i.fields) gs ≡ gs
      → (lines : LayerLines) → below ≡ lines.below → rest ≡ left 15 (slots_in lines) → (few : leaves_l (slots_in now) ≤ limit)
      → GroupsLaid lines out (record { lines = now; slotted = leaf; few = few }) whole
  unfolding laid
  no_more e f lines b r few =
      let w : here ≡ whole = ap (laid here) (sym e) ∙ i.same in
      record {
        bytes = ap (λ (l : Laid). l.out) w;
        at = ap (λ (l : Laid). l.at) w;
        slots = i.slots ∙ ap (λ (l : Laid). slots_of l.fields) w;
        below = i.below_same ∙ b;
        rest = sym f ∙ i.lines ∙ r;
      }

  pub groups_end : gs ≡ [] → (lines : LayerLines) → below ≡ lines.below → rest ≡ left 15 (slots_in lines) → (few : leaves_l (slots_in now) ≤ limit)
      → GroupsLaid lines out (record { lines = now; slotted = leaf; few = few }) whole
  unfolding filled left
  groups_end e lines b r few = no_more (rw e) (rw e) lines b r few

  module _ (g : Slots) (gs' : List Slots) (e : gs ≡ g ∷ gs') where
    pub groups-stop : 15 < length i.fields + size_s g → (lines : LayerLines) → below ≡ lines.below → rest ≡ left 15 (slots_in lines) → (few : leaves_l (slots_in now) ≤ limit)
        → GroupsLaid lines out (record { lines = now; slotted = leaf; few = few }) whole
    groups-stop h lines b r few =
        let t = stops (15 - length i.fields) g gs' (omega arith) in no_more (rw e t.0) (rw e t.1) lines b r few

    module _ (h : length i.fields + size_s g ≤ 15) where
      pub group_end : end_s leaf.at g ≤ whole.at
      group_end =
          let t = fills (15 - length i.fields) g gs' (omega arith) in
          let l : Slots = filled (15 - length i.fields - size_s g) gs' in
          rw (← end_same, e, t.0, ← laid-at here (join_s g l), laid_join here g l, laid-at (laid here g) l) (omega (arith, grow_s l (laid here g).at, laid-at here g))

      pub group-holds : HoldsSlots (15 - size_s g) leaf.slots
      group-holds = record { fields = i.fields; same = i.slots; few = omega (arith, h) }

      pub group-room : whole.at ≤ size → size ≤ 16777216 → Room out leaf.at 0 (end_s leaf.at g)
      group-room a b = record { some = i.some; behind = λ z. absurd (z refl); fits = omega (arith, group_end, a, i.long); short = omega (arith, i.long, b) }

      pub groups_turn : (out' : List ℕ) (now' : LayerLines) (leaf' : Slotted) → GroupLaid out' leaf' (laid here g) → now'.below ≡ now.below → leaves_l (slots_in now') ≤ limit → slots_in now' ≡ gs'
          → length out' ≡ length out → PartsSoFar below whole rest size out' now' leaf'
      groups_turn out' now' leaf' d c k' f n =
          let k : length (laid here g).fields ≡ length i.fields + size_s g = laid-count here g in
          let t = fills (15 - length i.fields) g gs' (omega arith) in
          let room : 15 - length i.fields - size_s g ≡ 15 - length (laid here g).fields = omega arith in
          let l : Slots = filled (15 - length (laid here g).fields) gs' in
          let st : ◌≡◌ {A = Laid} (record { out = out'; at = leaf'.at; fields = (laid here g).fields }) (laid here g) = rw (d.bytes, d.at) refl in
          record {
            fields = (laid here g).fields;
            slots = d.slots;
            few = omega arith;
            below_same = c ∙ i.below_same;
            few_left = k';
            some = omega (arith, i.some, d.at, laid-at here g, grow_s g leaf.at);
            same =
                rw (f, st) (sym (laid_join here g l) ∙ ap (laid here) (ap (λ (y : ℕ). join_s g (filled y gs')) (sym room) ∙ sym t.0 ∙ ap (filled (15 - length i.fields)) (sym e)) ∙ i.same);
            lines = rw f (ap (λ (y : ℕ). left y gs') (sym room) ∙ sym t.1 ∙ ap (left (15 - length i.fields)) (sym e) ∙ i.lines);
            long = n ∙ i.long;
          }
