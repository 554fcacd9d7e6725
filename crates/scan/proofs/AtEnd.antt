-- THE THEOREM `ended-at_end` (02 [12]: "A walk that hands out the key exactly at its end is ended there; the next call answers none with zero
-- moves", "over any image"): over any bytes, and of any walk whose buffer and stack have their lengths. A walk whose count was the image's
-- length has a count above it then, which 02 [13] declines with 21 before all else.
use Rattle.std.specs.Prelude.{◌≡◌, ◌<◌, Some, None, Ok, Err}
use Rattle.base.specs.Kit.{ap, sym, ◌∙◌, Bool, true, not, List, ℕ, arith, length, take, not-false}
use Rattle.base.proofs.Choice.{pick_ind}
use Rattle.walk.specs.Walk.{walk_ok, keys_of, len_of}
use Rattle.walk.proofs.NumberLaws.{walk-fits, fits-walk}
use Rattle.scan.specs.Types.{Held, Walk, Answer, Stepped}
use Rattle.scan.specs.Machine.{run, is_ended, scan_of, after_key, answered, stepped, finished, advance, step}
use Rattle.scan.specs.Ends.{ends_with}
use Rattle.scan.proofs.BeginLaws.{starts_between, step_ended}
use Rattle.scan.proofs.Kept.{OutBy, run-kept}

module _ (w : Walk) (image : List ℕ) (buf-is : length w.cursor.buf ≡ 256) (stack_is : length w.stack ≡ 31) where
  -- a key is out: the walk's state goes by it, and its numbers are in range
  abbrev After : Stepped → Type 0
  After s = keys_of s.answer ≡ 1 → (s.walk.state ≡ after_key (ends_with w s)) × (w.handed.count < length image → walk_ok s.walk (length image) ≡ true)

  abbrev bytes : List ℕ
  bytes = take w.bound.len w.bound.key

  module _ (ok : walk_ok w (length image) ≡ true) where
    after_run : (answer : Answer) (last : Bool) (moves : ℕ) (s : Held) → OutBy image w.bound.kind bytes answer last s → After (stepped w answer last moves s)
    unfolding keys_of len_of
    after_run (Ok (Some k)) last moves s h e =
        let o = walk-fits w (length image) ok in
        let r = h.in_range_lem in (
          ap after_key h.last-is,
          λ room. fits-walk _ (length image)
              (record {
                length-is = o.length-is;
                depth-fits = r.deep;
                offset-is = r.place;
                end_fits = r.within;
                position-fits = r.position;
                kind_fits = o.kind_fits;
                bound-fits = o.bound-fits;
                last_fits = r.deep;
                count_fits = omega arith;
              }),
        )
    after_run (Ok None) last moves s h e = absurd (omega arith)
    after_run (Err d) last moves s h e = absurd (omega arith)

    after-advance : After (advance w image)
    unfolding advance finished scan_of
    after-advance =
        let r = run image w.bound.kind bytes (length image) 0 (scan_of w) in
        after_run r.answer r.last r.moves r.scan
        (run-kept image w.bound.kind bytes (length image) 0 (scan_of w) (starts_between w (length image) ok) (buf-is, stack_is)).0

  after-step : After (step w image)
  unfolding step keys_of
  after-step =
      pick_ind After (not (walk_ok w (length image))) (λ t e. absurd (omega arith))
      (λ f. pick_ind After (is_ended w.state) (λ t e. absurd (omega arith)) (λ t. after-advance (not-false _ f)))

  pub ended-at_end : keys_of (step w image).answer ≡ 1
      → ((step w image).walk.state ≡ after_key (ends_with w (step w image)))
      × (ends_with w (step w image) ≡ true → w.handed.count < length image → step (step w image).walk image ≡ answered (Ok None) 0 (step w image).walk)
  ended-at_end e =
      let a = after-step e in
      (a.0, λ t room. sym (step_ended (step w image).walk image (a.1 room) (ap is_ended (a.0 ∙ ap after_key t))))
