-- THE THEOREM about the tally's number and its count: the check's number, else the placing's; and the length of demand 3's row where both are
-- 0, zero elsewhere. `tally` (src/lib.rt) equals the definition, by its contract.
use Rattle.std.specs.Prelude.{◌≡◌, Result, Ok, Err}
use Rattle.base.specs.Kit.{refl, not, List, ℕ, eqb, length, ne_eqb}
use Rattle.base.specs.Decline.{decline_number, and_then, number_if}
use Rattle.base.specs.declared.Decline.{Decline}
use Rattle.base.specs.Pick.{pick}
use Rattle.base.proofs.Declines.{never-zero}
use Rattle.layering.specs.Sieve.{row_of}
use Rattle.verify.specs.Check.{check, check_number}
use Rattle.verify.specs.declared.Counts.{Counts}
use Rattle.walk.specs.Placing.{code_of, placed_by, place, placing, fresh_walk}
use Rattle.walk.specs.declared.scan_state.Walk.{Walk}
use Rattle.cursor.specs.declared.range_bound.StartMode.TheVariants.{Above}
use Rattle.survey.specs.Tally.{tally_number, tally_count, tally}

-- by the answers of the check and of the placing's tests
abbrev by : Result Counts Decline → Result Unit Decline → ℕ → Result ℕ Decline
by x y l = and_then x (λ counts. and_then y (λ seen. Ok l))

answer : (x : Result Counts Decline) (y : Result Unit Decline) (w : Walk) (l : ℕ)
    → (tally_number (by x y l) ≡ pick (not (eqb (check_number x) 0)) (check_number x) (code_of (placed_by y w)))
    × (tally_count (by x y l) ≡ pick (eqb (tally_number (by x y l)) 0) l 0)
unfolding pick and_then tally_number tally_count check_number code_of number_if
answer (Ok c) (Ok u) w l = (refl, refl)
answer (Ok c) (Err d) w l = (refl, rw (ne_eqb (decline_number d) 0 (never-zero d)))
answer (Err d) y w l = (rw (ne_eqb (decline_number d) 0 (never-zero d)), rw (ne_eqb (decline_number d) 0 (never-zero d)))

pub tally-says : (image cursor : List ℕ) (kind : ℕ) (bound : List ℕ)
    → (tally_number (tally image cursor kind bound) ≡ pick (not (eqb (check_number (check image)) 0)) (check_number (check image)) (code_of (place image Above cursor kind bound)))
    × (tally_count (tally image cursor kind bound) ≡ pick (eqb (tally_number (tally image cursor kind bound)) 0) (length (row_of image Above cursor kind bound)) 0)
unfolding tally place
tally-says image cursor kind bound =
    answer (check image) (placing image cursor kind bound) (fresh_walk image Above cursor kind bound) (length (row_of image Above cursor kind bound))
