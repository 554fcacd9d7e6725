-- A slot as the functions read it.
use Rattle.std.specs.Prelude.{Result, Ok, Err}
use Rattle.base.specs.Kit.{ℕ, leb}
use Rattle.base.specs.Pick.{pick}
use Rattle.search.specs.Types.{Decline, Unreadable, Position, Slot}
use Rattle.node.specs.Permuter.{slot_at}

-- "22: .. a slot of 15": the slot that a permutation has at a position, where it is one of the leaf's 15 places.
unfoldable pub usable_slot : ℕ → Position → Result Slot Decline
usable_slot permutation p = pick (leb 15 (slot_at permutation p).0) (Err Unreadable) (Ok (slot_at permutation p))
