-- THE THEOREM `step_keeps`: after a step of a record's walk the record, with the bound that it had, is again a walk's, and reads back
-- as the walk after the step. Every move keeps the lengths of buffer and stack (scan/proofs/Kept.antt), and no step changes the bound.
use Rattle.std.specs.Prelude.{◌≡◌, Some, None, Ok, Err}
use Rattle.base.specs.Kit.{refl, ap, subst, Bool, true, not, List, ℕ, length, take, not-false}
use Rattle.base.proofs.Choice.{pick_ind}
use Rattle.record_step.specs.Types.{Held, RangeBound, Walk, Answer, Stepped}
use Rattle.walk.specs.Walk.{walk_ok}
use Rattle.scan.specs.Machine.{run, is_ended, scan_of, stepped, finished, advance, step}
use Rattle.scan.proofs.BeginLaws.{starts_between}
use Rattle.scan.proofs.Kept.{Long, run-kept}
use Rattle.walk_record.specs.Record.{numbers_of, entries, read_walk, is_record}
use Rattle.record_step.specs.Step.{step_of}
use Rattle.walk_record.proofs.Told.{record_told}
use Rattle.walk_record.proofs.Inverse.{Arrays, record_inverse}

-- A step keeps the lengths and the bound.
abbrev Same : Walk → Stepped → Type 0
Same w r = Arrays r.walk × (r.walk.bound ≡ w.bound)

module _ (w : Walk) (a : Arrays w) where
  stepped_kept : (answer : Answer) (last : Bool) (moves : ℕ) (s : Held) → Long s → Same w (stepped w answer last moves s)
  stepped_kept (Ok (Some key)) last moves s l = (record { stack_is = l.1; buf-is = l.0; key-is = a.key-is; kind_fits = a.kind_fits }, refl)
  stepped_kept (Ok None) last moves s l = (record { stack_is = l.1; buf-is = l.0; key-is = a.key-is; kind_fits = a.kind_fits }, refl)
  stepped_kept (Err d) last moves s l = (a, refl)

  pub step_kept : (image : List ℕ) → Same w (step w image)
  unfolding step advance finished scan_of
  step_kept image =
      pick_ind (Same w) (not (walk_ok w (length image))) (λ t. (a, refl))
      (λ f. pick_ind (Same w) (is_ended w.state) (λ t. (a, refl))
      (λ g.
      let bound = take w.bound.len w.bound.key in
      let r = run image w.bound.kind bound (length image) 0 (scan_of w) in
      stepped_kept r.answer r.last r.moves r.scan (run-kept image w.bound.kind bound (length image) 0 (scan_of w) (starts_between w (length image) (not-false _ f)) (a.buf-is, a.stack_is)).1))

module _ (n b k image : List ℕ) (is : is_record n b k ≡ true) where
  pub read_arrays : Arrays (read_walk n b k)
  unfolding read_walk entries
  read_arrays =
      let t = record_told n b k is in
      record { stack_is = refl; buf-is = t.lengths.buf-is; key-is = t.lengths.bound-is; kind_fits = t.kind_fits }

  pub step_keeps : (is_record (numbers_of (step_of n b k image).walk) (step_of n b k image).walk.cursor.buf k ≡ true)
      × (read_walk (numbers_of (step_of n b k image).walk) (step_of n b k image).walk.cursor.buf k ≡ (step_of n b k image).walk)
  unfolding read_walk
  step_keeps =
      let kept = step_kept (read_walk n b k) read_arrays image in
      let w = (step_of n b k image).walk in
      subst (λ (key : List ℕ). (is_record (numbers_of w) w.cursor.buf key ≡ true) × (read_walk (numbers_of w) w.cursor.buf key ≡ w))
      (ap (λ (r : RangeBound). r.key) kept.1) (record_inverse w kept.0)
