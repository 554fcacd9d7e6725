-- Laws of `pick`.
use Rattle.std.specs.Prelude.{◌≡◌, ◌≤◌}
use Rattle.base.specs.Kit.{refl, Bool, true, false, ℕ, arith, bool_byte}
use Rattle.base.specs.Pick.{pick}

-- a case split on a test, with what the test says in each case
pub pick_ind : {A : Type 0} (P : A → Type 0) (b : Bool) {x y : A} → (b ≡ true → P x) → (b ≡ false → P y) → P (pick b x y)
unfolding pick
pick_ind P true f g = f refl
pick_ind P false f g = g refl

-- the two cases of a test, with what it says in each
pub by_test : {A : Type 0} (b : Bool) → (b ≡ true → A) → (b ≡ false → A) → A
by_test true f g = f refl
by_test false f g = g refl

-- a function of a choice
pub pick-map : {A B : Type 0} (f : A → B) (b : Bool) (x y : A) → f (pick b x y) ≡ pick b (f x) (f y)
unfolding pick
pick-map f true x y = refl
pick-map f false x y = refl

-- a choice by the same test within
pub pick_inner : {A B : Type 0} (f : A → B) (b : Bool) (x y : A) (z : B) → pick b (f (pick b x y)) z ≡ pick b (f x) z
unfolding pick
pick_inner f true x y z = refl
pick_inner f false x y z = refl

-- a test as a number, and as code has it
pub one_at_most : (b : Bool) → pick b 1 0 ≤ 1
one_at_most b = pick_ind (λ (n : ℕ). n ≤ 1) b (λ t. omega arith) (λ f. omega arith)

pub one_by_test : (b : Bool) → bool_byte b ≡ pick b 1 0
unfolding pick
one_by_test true = refl
one_by_test false = refl

-- A choice by a test b, where a call's answer r is that test.
module _ (b r : Bool) (e : r ≡ b) where
  pub pick-on : {A : Type 0} (x y z : A) → r ≡ true → z ≡ x → z ≡ pick b x y
  unfolding pick
  pick-on x y z t g = rw (← e, t) g

  pub pick_off : {A : Type 0} (x y z : A) → r ≡ false → z ≡ y → z ≡ pick b x y
  unfolding pick
  pick_off x y z f g = rw (← e, f) g
