-- THE THEOREMS of 02 [13] about one step, over any bytes and any walk: `step_carries`, what it carries; `past-count`, a walk whose count was the
-- image's length when it handed out a key is declined with 21 next.
use Rattle.std.specs.Prelude.{◌≡◌, ◌≤◌, Some, None, Ok, Err}
use Rattle.base.specs.Kit.{refl, sym, Bool, not, List, ℕ, arith, length, take}
use Rattle.base.proofs.Choice.{pick_ind, by_test}
use Rattle.walk.specs.Walk.{walk_ok, keys_of}
use Rattle.walk.proofs.NumberLaws.{walk-fits}
use Rattle.scan.specs.Types.{Held, Walk, Answer, WalkRange}
use Rattle.scan.specs.Machine.{run, is_ended, scan_of, declined_with, stepped, finished, advance, step}
use Rattle.scan.specs.Carries.{carried, Carries}
use Rattle.scan.proofs.BeginLaws.{step_declined}

module _ (w : Walk) where
  -- a step by its answer
  by_answer : (answer : Answer) (last : Bool) (moves : ℕ) (s : Held) → Carries w (stepped w answer last moves s)
  unfolding carried keys_of
  by_answer (Ok (Some k)) last moves s = record { answer = refl; count = refl; depth = λ e. refl; stands = λ e. absurd (omega arith) }
  by_answer (Ok None) last moves s = record { answer = refl; count = omega arith; depth = λ e. absurd (omega arith); stands = λ e. refl }
  by_answer (Err d) last moves s = record { answer = refl; count = omega arith; depth = λ e. absurd (omega arith); stands = λ e. refl }

  pub step_carries : (image : List ℕ) → Carries w (step w image)
  unfolding step advance finished carried keys_of
  step_carries image =
      pick_ind (Carries w) (not (walk_ok w (length image)))
      (λ t. record { answer = refl; count = omega arith; depth = λ e. absurd (omega arith); stands = λ e. refl })
      (λ f. pick_ind (Carries w) (is_ended w.state)
      (λ t. record { answer = refl; count = omega arith; depth = λ e. absurd (omega arith); stands = λ e. refl })
      (λ t.
      let r = run image w.bound.kind (take w.bound.len w.bound.key) (length image) 0 (scan_of w) in
      by_answer r.answer r.last r.moves r.scan))

  pub past-count : (image : List ℕ) → keys_of (step w image).answer ≡ 1 → length image ≤ w.handed.count
      → step (step w image).walk image ≡ declined_with WalkRange (step w image).walk
  past-count image e h =
      let v = (step w image).walk in
      by_test (walk_ok v (length image))
      (λ t. absurd (omega (arith, (walk-fits v (length image) t).count_fits, (step_carries image).count)))
      (λ t. sym (step_declined v image t))
