-- THE SLOTS OF A LAYER'S LINES, and those of the group that they begin with, by the struct that has them.
use Rattle.std.specs.Prelude.{◌-◌}
use Rattle.base.specs.Kit.{List}
use Rattle.layering.specs.Tree.{Slots}
use Rattle.building.specs.Shape.{group_slots, layer_of}
use Rattle.groups.specs.declared.LayerLines.{LayerLines}
use Rattle.groups.specs.CodeGroups.{lines_at, group_of, slots_at}

abbrev pub slots_in : LayerLines → List Slots
slots_in l = slots_at l.sheet.now l.below l.line l.left

abbrev pub first_slots : LayerLines → Slots
first_slots l = group_slots (layer_of l.below) (group_of (lines_at l.sheet.now (31 - l.below) l.line l.left))
