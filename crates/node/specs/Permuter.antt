-- The permutation (01, "The image": "The permutation's low four bits are the size, the next fifteen four-bit fields the
-- slots in order"; "A position in the order and a slot number are kept apart").
use Rattle.std.specs.Prelude.{◌+◌, ◌*◌, ◌/◌, ◌%◌, ◌^◌}
use Rattle.base.specs.Kit.{ℕ}
use Rattle.node.specs.declared.permuter.Position.{Position}
use Rattle.node.specs.declared.permuter.Slot.{Slot}

-- The number of used slots.
abbrev pub size_of : ℕ → ℕ
size_of permutation = permutation % 16

-- The slot at a position: the four-bit field behind the size and the positions before it.
unfoldable pub slot_at : ℕ → Position → Slot
slot_at permutation p = record { 0 = permutation / 2 ^ (4 * p.0 + 4) % 16 }
