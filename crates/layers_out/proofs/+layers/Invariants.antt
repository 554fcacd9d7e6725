-- What falls: 64 for each layer that may lie below, and in a layer the height of what is written. Each loop's invariant: what is left,
-- written from here, comes to the same as the whole.
use Rattle.std.specs.Prelude.{◌+◌, ◌*◌, ◌-◌, ◌<◌, ◌≤◌}
use Rattle.base.specs.Kit.{[], map, length}
use Rattle.building.specs.Shape.{fill, leaf_of}
use Rattle.building.specs.CodeOrder.{filled, left}
use Rattle.building.specs.CodeLaid.{laid}
use Rattle.groups.specs.CodeLines.{slots_in}
use Rattle.layers_out.proofs.LeafParts.{PartsSoFar}
use Rattle.layers_out.proofs.Beside.{SiblingsSoFar}
use Rattle.layers_out.proofs.Growth.{LayerLoop}
use Rattle.layers_out.proofs.+layers.Given as goal

abbrev pub decreases-write_group : goal.decreases-write_group
decreases-write_group l = l.first.lines.below * 64 + 1

abbrev pub decreases-write_groups : goal.decreases-write_groups
decreases-write_groups l = l.r.lines.below * 64 + 2

abbrev pub decreases-write_leaf : goal.decreases-write_leaf
decreases-write_leaf l = l.r.lines.below * 64 + 3

abbrev pub decreases-write_subtree : goal.decreases-write_subtree
decreases-write_subtree l = l.r.lines.below * 64 + 2 * l.h + 4

abbrev pub decreases-write_internode : goal.decreases-write_internode
decreases-write_internode l = l.r.lines.below * 64 + 2 * l.h + 5

abbrev pub decreases-write_layer : goal.decreases-write_layer
decreases-write_layer l = l.lines.below * 64 + 63

abbrev pub invariant-write_groups-loop-lines : goal.invariant-write_groups-loop-lines
invariant-write_groups-loop-lines l =
    PartsSoFar l.r.lines.below (laid (record { out = l.fn.out; at = l.r.at; fields = [] }) (filled 15 (slots_in l.r.lines)))
    (left 15 (slots_in l.r.lines)) (length l.fn.out) l.out l.lines l.slotted

abbrev pub decreases-write_groups-loop-lines : goal.decreases-write_groups-loop-lines
decreases-write_groups-loop-lines l = l.lines.left

abbrev pub invariant-write_internode-loop : goal.invariant-write_internode-loop
invariant-write_internode-loop l = SiblingsSoFar l.h l.fn.out l.r l.counter l.out l.q l.c

abbrev pub invariant-write_layer-loop-r : goal.invariant-write_layer-loop-r
invariant-write_layer-loop-r l =
    LayerLoop l.lines.below l.initial.out l.at (map leaf_of (fill 15 (slots_in l.lines))) l.h l.out l.r × (0 < l.r.lines.left → l.h ≤ 3)

abbrev pub decreases-write_layer-loop-r : goal.decreases-write_layer-loop-r
decreases-write_layer-loop-r l = 4 - l.h
