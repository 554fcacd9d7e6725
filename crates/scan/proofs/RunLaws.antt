-- The loop's run, which counts as it goes: to the next key it is the machine's run, by induction on the moves that are left.
use Rattle.std.specs.Prelude.{◌≡◌, ◌&&◌, ◌+◌, ◌-◌, ◌<◌, Result, Ok, Err}
use Rattle.base.specs.Kit.{refl, ap, Bool, true, false, List, ℕ, zero, suc, length}
use Rattle.base.specs.Pick.{pick}
use Rattle.base.proofs.Count.{left-more}
use Rattle.scan.specs.Types.{Held, Outcome, Continue, Push, Emit, Exhausted, Decline, Walk}
use Rattle.walk.specs.Walk.{walk_ok}
use Rattle.scan.specs.Machine.{move, after, run, is_ended, finished, advance}
use Rattle.scan.specs.CodeLoop.{counted, after_by, run_by, all_by, advance_by, keys_ahead, keys_left}

module _ (image : List ℕ) (kind : ℕ) (bound : List ℕ) where
  abbrev ToKey : ℕ → Type 0
  ToKey n = (keys moves : ℕ) (s : Held) → (run_by false image kind bound n keys moves s).ran ≡ run image kind bound n moves s

  key-after : (n : ℕ) → ToKey n → (keys moves : ℕ) (next : Held) (o : Result Outcome Decline)
      → (after_by false o (counted o keys) moves next (run_by false image kind bound n (counted o keys) moves next)).ran
      ≡ after o moves next (run image kind bound n moves next)
  unfolding after_by counted after pick
  key-after n h keys moves next (Ok Continue) = h keys moves next
  key-after n h keys moves next (Ok (Push root)) = h keys moves next
  key-after n h keys moves next (Ok (Emit value last)) = refl
  key-after n h keys moves next (Ok Exhausted) = refl
  key-after n h keys moves next (Err d) = refl

  to-key : (n : ℕ) → ToKey n
  unfolding run_by run
  to-key zero keys moves s = refl
  to-key (suc n) keys moves s = key-after n (to-key n) keys (moves + 1) (move image kind bound s).scan (move image kind bound s).outcome

  -- ONE MOVE of a run that has moves left, which comes to o with the scan t
  pub turn : (whole : Bool) (moves keys : ℕ) (s : Held) (o : Result Outcome Decline) (t : Held) → moves < length image
      → move image kind bound s ≡ record { outcome = o; scan = t }
      → run_by whole image kind bound (length image - moves) keys moves s
      ≡ after_by whole o (counted o keys) (moves + 1) t (run_by whole image kind bound (length image - (moves + 1)) (counted o keys) (moves + 1) t)
  unfolding run_by
  turn whole moves keys s o t more e = rw (left-more (length image) moves more, e)

and-false_right : (b : Bool) → b && false ≡ false
and-false_right true = refl
and-false_right false = refl

module _ (w : Walk) (image : List ℕ) where
  pub steps_so : (advance_by false w image).stepped ≡ advance w image
  unfolding advance_by all_by advance
  steps_so = ap (finished w) (to-key image _ _ _ 0 0 _)

  -- the count, by the two tests that stand before its moves
  pub none_declined : walk_ok w (length image) ≡ false → 0 ≡ keys_left w image
  unfolding keys_left pick
  none_declined e = rw e

  pub none_ended : is_ended w.state ≡ true → 0 ≡ keys_left w image
  unfolding keys_left pick
  none_ended e = rw (e, and-false_right (walk_ok w (length image)))

  pub counts-ahead : walk_ok w (length image) ≡ true → is_ended w.state ≡ false → keys_ahead w image ≡ keys_left w image
  unfolding keys_left pick
  counts-ahead e f = rw (e, f)
