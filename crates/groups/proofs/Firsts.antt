-- THE GROUP THAT A LAYER'S LINES BEGIN WITH: what is known of its long keys, and of its slots and those behind it.
use Rattle.std.specs.Prelude.{◌≡◌, ◌∷◌, ◌+◌, ◌-◌, ◌≤◌, ◌<◌}
use Rattle.base.specs.Kit.{refl, sym, ap, ◌∙◌, List, ℕ, suc, min, arith}
use Rattle.layering.specs.Tree.{Slots}
use Rattle.layering.specs.Accepted.{end_n, end_s}
use Rattle.building.specs.Shape.{long_slots, layer_of}
use Rattle.groups.specs.declared.Tally.{Tally}
use Rattle.groups.specs.declared.LayerLines.{LayerLines}
use Rattle.groups.specs.declared.FirstGroup.{FirstGroup}
use Rattle.groups.specs.CodeGroups.{lines_at, Fit, LongsFit, slots_at}
use Rattle.groups.specs.CodeLines.{slots_in, first_slots}
use Rattle.groups.proofs.GroupLaws.{group-step, fit-longs, fit-rest}
use Rattle.groups.specs.CodeSize.{capped, counted}
use Rattle.groups.proofs.SizeLaws.{Tallied, capped_most, all_tallied, tallied-none, layer_tallied, long-none, next_eight, long-one, long_line, slots-few, tally_turn, long-more}

module _ (f : FirstGroup) where
  pub first_longs : LongsFit f.lines.sheet.now f.lines.below f.group.long_line f.group.longs
  first_longs = fit-longs _ _ _ _ f.lines.fit f.group f.read

  pub lines-some : 0 < f.lines.left
  lines-some = omega (arith, f.read.some, f.read.fewer)

  pub first_few : f.group.shorts + min 1 f.group.longs ≤ 15
  first_few = slots-few _ _ _ _ f.lines.fit lines-some f.group f.read

  -- THE SLOTS BEHIND IT
  abbrev pub behind_slots : List Slots
  behind_slots = slots_at f.lines.sheet.now f.lines.below f.group.behind (f.lines.left - (f.group.shorts + f.group.longs))

  pub begins : (l : LayerLines) → f.lines ≡ l → slots_in l ≡ first_slots f.lines ∷ behind_slots
  begins l e = sym (ap slots_in e) ∙ group-step _ _ _ _ f.lines.fit f.group f.read lines-some

  -- THE LINES BEHIND IT, as the code makes them
  abbrev pub RestOf : LayerLines → Type 0
  RestOf r =
      (r.sheet ≡ f.lines.sheet) × (r.below ≡ f.lines.below) × (r.line ≡ f.group.behind) × (r.left ≡ f.lines.left - (f.group.shorts + f.group.longs))

  pub rest_fit : Fit f.lines.sheet.now f.lines.below f.group.behind (f.lines.left - (f.group.shorts + f.group.longs))
  rest_fit = fit-rest _ _ _ _ f.lines.fit f.group f.read

  module _ (r : LayerLines) (e : RestOf r) where
    pub rest_slots : slots_in r ≡ behind_slots
    rest_slots = rw (e.0, e.1, e.2, e.3) refl

    pub rest_fewer : r.left < f.lines.left
    rest_fewer = omega (arith, e.3, f.read.some, f.read.fewer)

    -- counted with the group's slots and bytes
    pub size_turn : (gs : List Slots) (t : Tally) (b : ℕ)
        → b ≡ capped (end_s 0 (long_slots (layer_of f.lines.below) (lines_at f.lines.sheet.now (31 - f.lines.below) f.group.long_line f.group.longs)))
        → Tallied gs (slots_in f.lines) t → Tallied gs (slots_in r) (counted t (f.group.shorts + min 1 f.group.longs) b)
    size_turn gs t b h T = rw rest_slots (tally_turn _ _ _ _ f.lines.fit lines-some f.group f.read gs t b h T)

  -- THE LAYER BELOW
  abbrev pub BelowOf : LayerLines → Type 0
  BelowOf r = (r.sheet ≡ f.lines.sheet) × (r.below + 1 ≡ f.lines.below) × (r.line ≡ f.group.long_line) × (r.left ≡ f.group.longs)

  pub below_size : (r : LayerLines) → BelowOf r → 2 ≤ f.group.longs
      → capped (end_n 0 (layer_of (suc r.below) (lines_at r.sheet.now (31 - r.below) r.line r.left)))
      ≡ capped (end_s 0 (long_slots (layer_of f.lines.below) (lines_at f.lines.sheet.now (31 - f.lines.below) f.group.long_line f.group.longs)))
  below_size r e several =
      let d : r.below ≡ f.lines.below - 1 = omega (arith, e.1) in
      rw (e.0, d, e.2, e.3) (long-more _ _ _ _ several first_longs)

-- what the size of a layer rests on, and that of a group's long keys
pub ruleset layer_rules = (capped_most, all_tallied, tallied-none, layer_tallied, rest_fewer)

pub ruleset longs_rules = (long-none, next_eight, long-one, long_line, first_longs, below_size)
