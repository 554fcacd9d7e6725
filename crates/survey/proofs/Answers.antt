-- The tally's answers, one law for each way out of its code.
use Rattle.std.specs.Prelude.{◌≡◌, ◌<◌, Option, None, Some, Result, Ok, Err}
use Rattle.base.specs.Kit.{refl, List, ℕ, length, get_or}
use Rattle.base.specs.Decline.{and_then}
use Rattle.base.specs.declared.Decline.{Decline}
use Rattle.layering.specs.Sieve.{row_of}
use Rattle.verify.specs.Check.{check_number, check}
use Rattle.verify.specs.declared.Counts.{Counts}
use Rattle.walk.specs.Placing.{placed_by, place, placing, walk_unless, accepted}
use Rattle.scan.specs.CodeLoop.{keys_left}
use Rattle.cursor.specs.declared.range_bound.StartMode.TheVariants.{Above}
use Rattle.walk.specs.declared.scan_state.Placed.{Placed}
use Rattle.walk.specs.declared.scan_state.Walk.{Walk}
use Rattle.survey.specs.Tally.{tally}
use Rattle.survey.proofs.Counting.{row-counted}

-- what a placing's decline says of its tests
declined-by : (d : Decline) (x : Result Unit Decline) (w : Walk) → (placed_by x w).declined ≡ Some d → x ≡ Err d
declined-by d (Ok u) w e = absurd (cc)
declined-by d (Err b) w e = cc

taken-by : (x : Result Unit Decline) (w : Walk) → (placed_by x w).declined ≡ None → x ≡ Ok tt
taken-by (Ok u) w e = refl
taken-by (Err b) w e = absurd (cc)

-- what a placing's walk, or its decline in the place of one, says of the placing
decline-of : (d : Decline) (o : Option Decline) (w : Walk) → Err d ≡ walk_unless o w → o ≡ Some d
decline-of d None w e = absurd (cc)
decline-of d (Some b) w e = cc

walk-of : (v : Walk) (o : Option Decline) (w : Walk) → Ok v ≡ walk_unless o w → (o ≡ None) × (v ≡ w)
walk-of v None w e = (refl, cc)
walk-of v (Some b) w e = absurd (cc)

module _ (image cursor : List ℕ) (kind : ℕ) (bound : List ℕ) where
  module _ (c : Counts) (e : Ok c ≡ check image) (p : Placed) (g : p ≡ place image Above cursor kind bound) where
    -- the placing declines
    pub placed-declines : (d : Decline) → p.declined ≡ Some d → Err d ≡ tally image cursor kind bound
    unfolding tally and_then place
    placed-declines d f = let h = declined-by d (placing image cursor kind bound) _ (rw g at f) in rw (← e, h) refl

    -- the walk is counted
    pub placed_counts : ((i : ℕ) → get_or image i 0 < 256) → ((i : ℕ) → get_or cursor i 0 < 256) → p.declined ≡ None
        → (n : ℕ) → n ≡ keys_left p.walk image → Ok n ≡ tally image cursor kind bound
    unfolding tally and_then place check_number
    placed_counts b bc z n h =
        let taken = taken-by (placing image cursor kind bound) _ (rw g at z) in
        let passes : check_number (check image) ≡ 0 = rw (← e) refl in
        let w : keys_left p.walk image ≡ length (row_of image Above cursor kind bound) =
        rw g (row-counted image b passes Above cursor bc kind bound (rw g at z)) in
        rw (← e, taken, h, w) refl

  -- the same for who takes the placing's walk, or its decline in the place of one
  module _ (c : Counts) (e : Ok c ≡ check image) where
    pub place-declines : (d : Decline) → Err d ≡ accepted (place image Above cursor kind bound) → Err d ≡ tally image cursor kind bound
    unfolding accepted
    place-declines d f = placed-declines c e _ refl d (decline-of d _ _ f)

    pub counts : ((i : ℕ) → get_or image i 0 < 256) → ((i : ℕ) → get_or cursor i 0 < 256)
        → (w : Walk) → Ok w ≡ accepted (place image Above cursor kind bound)
        → (n : ℕ) → n ≡ keys_left w image → Ok n ≡ tally image cursor kind bound
    unfolding accepted
    counts b bc w f n h =
        let placed = walk-of w _ _ f in
        placed_counts c e _ refl b bc placed.0 n (rw placed.1 at h)
