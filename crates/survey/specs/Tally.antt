-- The tally's answer (01: "Tally: how many keys a walk above a cursor hands out within a bound. Check's numbers, then 11, 12, 13"; 02 [6]:
-- "it shall name mode above and give the same answers as before"; before, it used the short form: Tally01.antt).
use Rattle.std.specs.Prelude.{Result, Ok, Err}
use Rattle.base.specs.Kit.{List, ℕ, length}
use Rattle.base.specs.Decline.{decline_number, and_then}
use Rattle.base.specs.declared.Decline.{Decline}
use Rattle.layering.specs.Sieve.{row_of}
use Rattle.verify.specs.Check.{check}
use Rattle.walk.specs.Placing.{placing}
use Rattle.cursor.specs.declared.range_bound.StartMode.TheVariants.{Above}

-- 01's number of an answer, 0 where the tally was not declined, and its value: "A declined call returns its number, zero
-- elsewhere".
unfoldable pub tally_number : Result ℕ Decline → ℕ
tally_number (Ok n) = 0
tally_number (Err d) = decline_number d

unfoldable pub tally_count : Result ℕ Decline → ℕ
tally_count (Ok n) = n
tally_count (Err d) = 0

-- THE TALLY. "Check's numbers, then 11, 12, 13": a placing's declines in its order; of an accepted image 1 and 2 are not met. "how many
-- keys a walk above a cursor hands out within a bound": as many as the row of demand 3 has.
unfoldable pub tally : List ℕ → List ℕ → ℕ → List ℕ → Result ℕ Decline
tally image cursor kind bound =
    and_then (check image) (λ counts. and_then (placing image cursor kind bound) (λ seen. Ok (length (row_of image Above cursor kind bound))))
