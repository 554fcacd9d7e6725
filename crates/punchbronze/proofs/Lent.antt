-- What a placing and a step leave in lent output.
use Rattle.std.specs.Prelude.{◌≡◌, Result, Err}
use Rattle.base.specs.Kit.{sym, ◌∙◌, false, List, ℕ, arith, eqb, length, replicate, eqb-true, eq-eqb, ne_eqb}
use Rattle.base.specs.Pick.{pick}
use Rattle.base.proofs.Choice.{by_test}
use Rattle.walk_record.specs.Record.{sized}
use Rattle.record_step.specs.Step.{said_in, step_number, left}
use Rattle.base.specs.Decline.{decline_number}
use Rattle.record_step.specs.CodeStep.{step_out, number_made, StepMade}
use Rattle.base.proofs.Declines.{never-zero}
use Rattle.punchbronze.specs.Types.{Decline, Placed}
use Rattle.punchbronze.specs.Interface.{placed_number, placed_numbers, placed_buf, placed_bound, PutPlaced, said_numbers, out_after, StepLeft}

-- A PLACING for which the lent record is too long or too short
pub not_placed : (p : Placed) (n b k : List ℕ) → sized (length n) (length b) (length k) ≡ false → PutPlaced p n b k 21 n b k
unfolding placed_number placed_numbers placed_buf placed_bound pick
not_placed p n b k e = record { number = rw e; numbers-left = rw e; buf-left = rw e; bound-left = rw e }

-- THE STEP
module _ (n b bound image out : List ℕ) where
  has_room : step_number n b bound image out ≡ 0 → length out ≡ said_in
  unfolding step_number pick
  has_room e = by_test (eqb (length out) said_in) (eqb-true _ _) (λ f. absurd (let z : ◌≡◌ {A = ℕ} 21 0 = rw f at e in omega arith))

  module _ (r : Result Unit Decline) (n' b' mid : List ℕ) (made : StepMade n b bound image out (number_made r) n' b' mid) where
    pub says : number_made r ≡ 0 → StepLeft n b bound image out 0 n' b' mid
    unfolding out_after said_numbers step_out left pick
    says z =
        let t : step_number n b bound image out ≡ 0 = sym made.number ∙ z in
        record {
          number = sym t;
          numbers-left = made.numbers-left;
          buf-left = made.buf-left;
          out-left = rw (eq-eqb _ _ (has_room t), t) (rw t at made.out-left);
        }

    -- declined: `out` is as it came, and zeros are put there
    kept : (number_made r ≡ 0 → ⊥) → mid ≡ out
    unfolding step_out left pick
    kept h = rw (← made.number, ne_eqb (number_made r) 0 h) at made.out-left

    declined : (number_made r ≡ 0 → ⊥) → (out' : List ℕ) → out' ≡ pick (eqb (length mid) said_in) (replicate said_in 0) mid
        → StepLeft n b bound image out (number_made r) n' b' out'
    unfolding out_after said_numbers pick
    declined h out' e = record {
      number = made.number;
      numbers-left = made.numbers-left;
      buf-left = made.buf-left;
      out-left = rw (← made.number, ne_eqb (number_made r) 0 h, ← kept h) e;
    }

    pub declines : (d : Decline) → r ≡ Err d → (k : ℕ) → k ≡ decline_number d → (out' : List ℕ) → out' ≡ pick (eqb (length mid) said_in) (replicate said_in 0) mid
        → StepLeft n b bound image out k n' b' out'
    declines d f k g out' e =
        let same : number_made r ≡ k = rw f (sym g) in
        rw (← same) (declined (λ z. never-zero d (sym g ∙ (sym same ∙ z))) out' e)
