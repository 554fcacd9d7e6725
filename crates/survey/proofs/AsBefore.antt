-- 02 [6]: THE TALLY'S ANSWERS ARE WHAT THEY WERE, numbers included, for all inputs: those of the tally that went through a short form which
-- meant above. The idea of the proof: by demand 3 the steps of that form's walk say the row above the cursor, and then none; and the
-- row has no more keys than there are steps.
use Rattle.std.specs.Prelude.{◌≡◌, ◌∷◌, ◌≤◌, ◌<◌, None}
use Rattle.base.specs.Kit.{refl, ap, ◌∙◌, Bool, true, List, [], ℕ, zero, suc, arith, length, replicate, get_or}
use Rattle.base.specs.Decline.{and_then}
use Rattle.base.proofs.Declines.{by_answer}
use Rattle.layering.specs.Keys.{Pair}
use Rattle.layering.specs.Sieve.{row_of}
use Rattle.layering.proofs.Few.{row_fits}
use Rattle.verify.specs.Check.{check_number, check}
use Rattle.verify.proofs.Theorem.{accepted_obeys}
use Rattle.walk.specs.Placing.{place, placing}
use Rattle.cursor.specs.declared.range_bound.StartMode.TheVariants.{Above}
use Rattle.demands.specs.Demand.{calls_of, due, head_said, tail_of}
use Rattle.demands.proofs.Calls.{own-lent, own_calls}
use Rattle.demands.proofs.Demand.{demand-3}
use Rattle.survey.specs.Tally.{tally}
use Rattle.survey.specs.Tally01.{place_short01, keys_said, handed_out, tally01}

-- steps enough say every key of a row
says_all : (n : ℕ) (row : List Pair) → length row ≤ n → keys_said (due (replicate n true) row) ≡ length row
unfolding keys_said due head_said tail_of
says_all zero [] h = refl
says_all zero (x ∷ row) h = absurd (omega arith)
says_all (suc n) [] h = says_all n [] (omega arith)
says_all (suc n) (x ∷ row) h = omega (arith, says_all n row (omega arith))

module _ (image : List ℕ) (b : (i : ℕ) → get_or image i 0 < 256) (cursor : List ℕ) (bc : (i : ℕ) → get_or cursor i 0 < 256) (kind : ℕ)
    (bound : List ℕ) where
  -- what the old form's walk hands out
  hands-row : check_number (check image) ≡ 0 → (place_short01 image cursor kind bound).declined ≡ None
      → handed_out (place_short01 image cursor kind bound).walk image ≡ length (row_of image Above cursor kind bound)
  unfolding handed_out place_short01
  hands-row a e =
      let row = row_of image Above cursor kind bound in
      let n = length image in
      ap keys_said
      ((demand-3 image b a Above cursor bc kind bound e (calls_of image n) (own-lent image n)).says
      ∙ ap (λ (t : List Bool). due t row) (own_calls image n))
      ∙ says_all n row (row_fits image (accepted_obeys image a).0 Above cursor kind bound)

  pub tally_as-before : tally image cursor kind bound ≡ tally01 image cursor kind bound
  unfolding tally tally01 and_then check_number place_short01 place
  tally_as-before =
      by_answer (check image)
      (λ c e. by_answer (placing image cursor kind bound)
      (λ u f.
      let accepted : check_number (check image) ≡ 0 = rw e refl in
      let taken : (place_short01 image cursor kind bound).declined ≡ None = rw f refl in
      let hands = rw f at (hands-row accepted taken) in
      rw (e, f, hands) refl)
      (λ d f. rw (e, f) refl))
      (λ d e. rw e refl)
