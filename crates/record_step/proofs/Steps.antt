-- The ways a step over a lent record comes out, one law for each.
use Rattle.std.specs.Prelude.{◌≡◌, Option, Ok, Err}
use Rattle.base.specs.Kit.{sym, ap, ◌∙◌, true, false, List, ℕ, arith, length, eq-eqb, ne_eqb}
use Rattle.base.specs.Pick.{pick}
use Rattle.base.specs.Decline.{decline_number}
use Rattle.base.specs.declared.Decline.{Decline}
use Rattle.walk.specs.Walk.{number_of as walk_number, answer_numbers}
use Rattle.base.proofs.Declines.{never-zero}
use Rattle.scan.specs.Machine.{step}
use Rattle.record_step.specs.Types.{Walk, KeyOut, Stepped}
use Rattle.walk_record.specs.Record.{is_record, read_walk, numbers_of}
use Rattle.record_step.specs.Step.{said_in, step_number, left, step_numbers, step_buf}
use Rattle.record_step.specs.CodeStep.{step_out, StepMade}

module _ (n b k image out : List ℕ) where
  -- a number that is not 0 leaves everything
  same : (r : ℕ) → r ≡ step_number n b k image out → (r ≡ 0 → ⊥)
      → StepMade n b k image out r n b out
  unfolding step_numbers step_buf step_out left pick
  same r e h = record { number = e; numbers-left = rw (← e, ne_eqb r 0 h); buf-left = rw (← e, ne_eqb r 0 h); out-left = rw (← e, ne_eqb r 0 h) }

  module _ (room : length out ≡ said_in) where
    -- a record that is no walk's
    pub no_record : is_record n b k ≡ false
        → StepMade n b k image out 21 n b out
    unfolding step_number pick
    no_record h = same 21 (rw (eq-eqb _ _ room, h)) (λ e. omega arith)

    -- a step of the record's walk
    module _ (is : is_record n b k ≡ true) (w : Walk) (read : w ≡ read_walk n b k) (s : Stepped) (made : s ≡ step w image) where
      number : walk_number s.answer ≡ step_number n b k image out
      unfolding step_number pick
      number = rw (made, read, eq-eqb _ _ room, is)

      pub declined : (d : Decline) → s.answer ≡ Err d
          → StepMade n b k image out (decline_number d) n b out
      unfolding walk_number
      declined d e = same (decline_number d) (ap walk_number (sym e) ∙ number) (never-zero d)

      pub taken : (key : Option KeyOut) → s.answer ≡ Ok key
          → (n' b' out' : List ℕ) → n' ≡ numbers_of s.walk → b' ≡ s.walk.cursor.buf → out' ≡ answer_numbers s.answer s.moves s.handed
          → StepMade n b k image out 0 n' b' out'
      unfolding step_numbers step_buf step_out left pick walk_number
      taken key z n' b' out' en eb eo =
          let t : step_number n b k image out ≡ 0 = sym number ∙ ap walk_number z in
          record { number = sym t; numbers-left = rw (t, ← read, ← made) en; buf-left = rw (t, ← read, ← made) eb; out-left = rw (t, ← read, ← made) eo }
