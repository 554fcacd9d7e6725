-- A slot of 15 is declined where the definition looks at the slot.
use Rattle.std.proofs.Common.{arith}
use Rattle.std.proofs.lemmas.Grind.{common_steps}
use Rattle.base.specs.Pick.{pick}
use Rattle.base.specs.Decline.{and_then}
use Rattle.search.specs.CodeSlots.{usable_slot}
use Rattle.moves.specs.Moves.{kept, find_slot, find_next}
use Rattle.moves.proofs.walking.Walking.find_next.Goals as goal

pub returns-in_err-slot : goal.returns-in_err-slot
unfolding find_next find_slot kept usable_slot and_then pick
returns-in_err-slot c = grind (arith, common_steps)
