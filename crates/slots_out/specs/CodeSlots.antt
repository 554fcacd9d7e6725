-- A GROUP'S SLOTS, as code adds them to those of a leaf (building/specs/CodeLaid.antt): its short keys, and a suffix.
use Rattle.std.specs.Prelude.{◌≡◌, ◌*◌, ◌-◌, ◌≤◌, ◌<◌}
use Rattle.base.specs.Kit.{List, ℕ, length}
use Rattle.layering.specs.Keys.{Pair}
use Rattle.layering.specs.Ascending.{All}
use Rattle.building.specs.CodeLaid.{Laid}
use Rattle.groups.specs.CodeGroups.{Lines, lines_at}
use Rattle.image_out.specs.CodeRows.{slots_of}
use Rattle.slots_out.specs.declared.Slotted.{Slotted}

-- n station lines whose keys end in the layer at depth d.
pub record ShortLines (s : List ℕ) (d line n : ℕ) : Type 0 where
  pub deep : d ≤ 31
  pub lines : Lines s line n
  pub short : All (λ (x : Pair). length x.key ≤ 8) (lines_at s d line n)

-- One station line whose key goes on below it.
pub record LongLine (s : List ℕ) (d line : ℕ) : Type 0 where
  pub deep : d ≤ 31
  pub lines : Lines s line 1
  pub long : All (λ (x : Pair). (8 < length x.key) × (length x.key ≤ 256 - 8 * d)) (lines_at s d line 1)

-- The place behind a part, and the slots with its own.
pub record GroupLaid (out : List ℕ) (r : Slotted) (l : Laid) : Type 0 where
  pub bytes : out ≡ l.out
  pub at : r.at ≡ l.at
  pub slots : r.slots ≡ slots_of l.fields
