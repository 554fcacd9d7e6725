-- What a placing that is not declined says of what it was given; and that the short form is the long one in mode from.
use Rattle.std.specs.Prelude.{◌≡◌, ◌≤◌, Option, Some, None, Result, Ok, Err}
use Rattle.base.specs.Kit.{refl, Bool, true, false, List, ℕ, length, ltb-false, not-false}
use Rattle.base.specs.Pick.{pick}
use Rattle.base.specs.Decline.{number_if}
use Rattle.base.specs.declared.Decline.{Decline}
use Rattle.base.proofs.Declines.{never-zero, both_ok}
use Rattle.node.specs.Heading.{heading}
use Rattle.node.proofs.HeadingLaws.{length-fits}
use Rattle.walk.specs.Types.{From, Placed}
use Rattle.walk.specs.Placing.{placing, code_of, place, place_short}

-- an answer that is Ok, by a test that declines first
missed : {A : Type 0} (t : Bool) (d : Decline) (rest : Result A Decline) (x : A) → pick t (Err d) rest ≡ Ok x → (t ≡ false) × (rest ≡ Ok x)
unfolding pick
missed true d rest x e = cc
missed false d rest x e = (refl, e)

heading-fits : (image : List ℕ) → heading image ≡ Ok tt → 440 ≤ length image
unfolding heading
heading-fits image e = (length-fits _ (not-false _ (missed _ _ _ _ e).0)).0

pub placed_fits : (image key : List ℕ) (kind : ℕ) (bound : List ℕ) → placing image key kind bound ≡ Ok tt
    → (440 ≤ length image) × (length key ≤ 256) × (kind ≤ 2) × (length bound ≤ 256)
unfolding placing
placed_fits image key kind bound e =
    let h = both_ok _ _ _ e in
    let k = missed _ _ _ _ h.2 in
    let l = missed _ _ _ _ k.1 in
    let b = missed _ _ _ _ l.1 in
    (heading-fits image h.1, ltb-false _ _ k.0, ltb-false _ _ l.0, ltb-false _ _ b.0)

-- a placing's number is 0 where it is not declined, and nowhere else
none-if : (o : Option Decline) → number_if o ≡ 0 → o ≡ None
unfolding number_if
none-if None e = refl
none-if (Some d) e = absurd (never-zero d e)

pub declined-none : (p : Placed) → code_of p ≡ 0 → p.declined ≡ None
unfolding code_of
declined-none p e = none-if p.declined e

pub none-code : (p : Placed) → p.declined ≡ None → code_of p ≡ 0
unfolding code_of number_if
none-code p e = rw e

-- 02 [6]: THE SHORT FORM, over every image and argument.
pub short-is_from : (image key : List ℕ) (kind : ℕ) (bound : List ℕ) → place_short image key kind bound ≡ place image From key kind bound
unfolding place_short
short-is_from image key kind bound = refl
