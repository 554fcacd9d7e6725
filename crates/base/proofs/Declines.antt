-- Laws of declines: an answer by its two cases, what `and_then` comes to, and what a `?` returns.
use Rattle.std.specs.Prelude.{◌≡◌, Result, Ok, Err, IsErrAnd}
use Rattle.base.specs.Kit.{refl, arith}
use Rattle.base.specs.Decline.{decline_number, and_then}
use Rattle.base.specs.declared.Decline.{Decline}

-- no decline's number is 0
pub never-zero : (d : Decline) → decline_number d ≡ 0 → ⊥
never-zero d e = grind arith

-- the two cases of an answer, with what it is in each
pub by_answer : {A P : Type 0} (x : Result A Decline) → ((y : A) → x ≡ Ok y → P) → ((d : Decline) → x ≡ Err d → P) → P
by_answer (Ok y) f g = f y refl
by_answer (Err d) f g = g d refl

-- what a `?` returns is the decline that it met
pub handed_on : {A : Type 0} (r : Result A Decline) (d : Decline) (w : Result A Decline) → IsErrAnd r (λ e. e ≡ d) → Err d ≡ w → r ≡ w
handed_on (Ok x) d w h e = absurd h
handed_on (Err b) d w h e = rw h e

-- what holds of the two cases holds of the whole
pub then_ind : {A B : Type 0} (P : Result B Decline → Type 0) (r : Result A Decline) (f : A → Result B Decline)
    → ((d : Decline) → r ≡ Err d → P (Err d)) → ((x : A) → r ≡ Ok x → P (f x)) → P (and_then r f)
unfolding and_then
then_ind P (Ok x) f g h = h x refl
then_ind P (Err d) f g h = g d refl

-- an answer that is Ok, by the answer before it and what follows
pub both_ok : {A B : Type 0} (r : Result A Decline) (f : A → Result B Decline) (y : B) → and_then r f ≡ Ok y → (x : A) × (r ≡ Ok x) × (f x ≡ Ok y)
unfolding and_then
both_ok (Ok x) f y e = (x, refl, e)
both_ok (Err d) f y e = cc
