-- THE THEOREMS of 02 [13] about every list of steps from a fresh placing. `count-is-keys`, over any image and any bytes that the steps are lent:
-- "After every list of steps from a fresh placing the walk's count equals the number of keys handed out". `carried-due`, over an accepted image:
-- what each step carries, the depth of its key being that of the layer in which the tree holds it.
use Rattle.std.specs.Prelude.{◌≡◌, ◌∷◌, ◌+◌, ◌<◌, None, Result, Ok, Err}
use Rattle.base.specs.Kit.{refl, ap, sym, subst, List, [], ℕ, arith, get_or}
use Rattle.layering.specs.Sieve.{row_of}
use Rattle.verify.specs.Check.{check_number, check}
use Rattle.verify.proofs.Theorem.{accepted_obeys}
use Rattle.walk.specs.Walk.{keys_of, nothing_yet, zero_walk}
use Rattle.walk.specs.Placing.{placing, fresh_walk, placed_by, place}
use Rattle.scan.proofs.Carries.{step_carries}
use Rattle.lent.specs.Form.{step_as}
use Rattle.lent.proofs.Same.{step_as_lem}
use Rattle.demands.specs.Types.{HandedOut, StartMode, Walk, Decline, Stepped}
use Rattle.demands.specs.Demand.{Call, steps, Lent, own}
use Rattle.demands.specs.HandedOut.{walk_after, keys_out, handed_by, due_handed}
use Rattle.demands.proofs.Whole.{taken, fresh-steps}

-- each step adds its keys
counted : (calls : List Call) (w : Walk) → (walk_after w calls).handed.count ≡ w.handed.count + keys_out (steps w calls)
unfolding walk_after keys_out steps
counted [] w = omega arith
counted (c ∷ rest) w =
    let s : Stepped = step_as c.form w c.bytes in
    let one = subst (λ (t : Stepped). t.walk.handed.count ≡ w.handed.count + keys_of t.answer) (sym (step_as_lem c.form w c.bytes)) (step_carries w c.bytes).count in
    omega (arith, counted rest s.walk, one)

-- a placing has handed out nothing, also one that is declined
placed-none : (image : List ℕ) (mode : StartMode) (cursor : List ℕ) (kind : ℕ) (bound : List ℕ) → (place image mode cursor kind bound).walk.handed ≡ nothing_yet
unfolding place zero_walk fresh_walk
placed-none image mode cursor kind bound =
    go (placing image cursor kind bound)
  where
    go : (r : Result Unit Decline) → (placed_by r (fresh_walk image mode cursor kind bound)).walk.handed ≡ nothing_yet
    go (Ok seen) = refl
    go (Err d) = refl

pub count-is-keys : (image : List ℕ) (mode : StartMode) (cursor : List ℕ) (kind : ℕ) (bound : List ℕ) (calls : List Call)
    → (let w = (place image mode cursor kind bound).walk in (walk_after w calls).handed.count ≡ keys_out (steps w calls))
count-is-keys image mode cursor kind bound calls =
    let w = (place image mode cursor kind bound).walk in
    omega (arith, counted calls w, ap (λ (h : HandedOut). h.count) (placed-none image mode cursor kind bound))

pub carried-due : (image : List ℕ) → ((i : ℕ) → get_or image i 0 < 256) → check_number (check image) ≡ 0
    → (mode : StartMode) (cursor : List ℕ) → ((i : ℕ) → get_or cursor i 0 < 256) → (kind : ℕ) (bound : List ℕ)
    → (place image mode cursor kind bound).declined ≡ None → (calls : List Call) → Lent image calls
    → handed_by (steps (place image mode cursor kind bound).walk calls) ≡ due_handed image (own image calls) (row_of image mode cursor kind bound) nothing_yet
carried-due image b a mode cursor bc kind bound e calls l =
    let t = taken image mode cursor kind bound e in
    rw t.0 (fresh-steps image b (accepted_obeys image a).0 mode cursor bc kind bound t.1 calls l).3
