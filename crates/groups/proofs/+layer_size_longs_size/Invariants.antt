-- What falls: two for each layer below, and one for a whole layer. The loop's invariant: what is left, counted on from the tally,
-- comes to the same as the whole.
use Rattle.std.specs.Prelude.{◌≡◌, ◌+◌, ◌*◌}
use Rattle.groups.specs.CodeLines.{slots_in}
use Rattle.groups.proofs.SizeLaws.{Tallied}
use Rattle.groups.proofs.+layer_size_longs_size.Given as goal

abbrev pub decreases-layer_size : goal.decreases-layer_size
decreases-layer_size l = l.lines.below * 2 + 1

abbrev pub decreases-longs_size : goal.decreases-longs_size
decreases-longs_size l = l.first.lines.below * 2

abbrev pub invariant-layer_size-loop-rest : goal.invariant-layer_size-loop-rest
invariant-layer_size-loop-rest l = (l.rest.below ≡ l.lines.below) × Tallied (slots_in l.lines) (slots_in l.rest) l.t

abbrev pub decreases-layer_size-loop-rest : goal.decreases-layer_size-loop-rest
decreases-layer_size-loop-rest l = l.rest.left
