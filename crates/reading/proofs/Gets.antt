-- What a reader that got something has passed: laws of `next`, `after` and `pick` over `Got`.
use Rattle.std.specs.Prelude.{◌≡◌, ◌∷◌, ◌++◌, ◌≤◌}
use Rattle.base.specs.Kit.{refl, sym, ◌∙◌, ap₂, Bool, true, false, false≢true, List, [], ℕ, arith, eqb, length, drop, eqb-true, eq-eqb, subst₂}
use Rattle.base.specs.Pick.{pick}
use Rattle.reading.specs.Read.{Got, none, got, next, after}
use Rattle.reading.specs.CodeViews.{word_at}

module _ {A : Type 0} {x : A} {r : List ℕ} where
  pub none-got : none ≡ got x r → ⊥
  none-got e = let z : ◌≡◌ {A = ℕ} 0 1 = cc in omega arith

  -- a choice that got something, by its test
  pub cases-got : {P : Type 0} (t : Bool) (g h : Got A) → pick t g h ≡ got x r
      → (t ≡ true → g ≡ got x r → P) → (t ≡ false → h ≡ got x r → P) → P
  unfolding pick
  cases-got true g h e f k = f refl e
  cases-got false g h e f k = k refl e

  pub guard-got : (t : Bool) (g : Got A) → pick t g none ≡ got x r → (t ≡ true) × (g ≡ got x r)
  guard-got t g e = cases-got t g none e (λ y w. (y, w)) (λ n w. absurd (none-got w))

  -- what is got has a name in what follows
  pub next-then : {B P : Type 0} (g : Got B) (f : B → List ℕ → Got A) → next g f ≡ got x r
      → ((b : B) (s : List ℕ) → g ≡ got b s → f b s ≡ got x r → P) → P
  unfolding next
  next-then none f e k = absurd (none-got e)
  next-then (got b s) f e k = k b s refl e

  after-got : (w s : List ℕ) (f : List ℕ → Got A) → after w s f ≡ got x r → (t : List ℕ) × (s ≡ w ++ t) × (f t ≡ got x r)
  unfolding after
  after-got [] s f e = (s, refl, e)
  after-got (w ∷ ws) [] f e = absurd (none-got e)
  after-got (w ∷ ws) (b ∷ s) f e =
      let h = guard-got (eqb b w) (after ws s f) e in
      let k = after-got ws s f h.1 in
      (k.0, ap₂ (λ (a : ℕ) (l : List ℕ). a ∷ l) (eqb-true b w h.0) k.1, k.2)

  pub after_then : {P : Type 0} (w s : List ℕ) (f : List ℕ → Got A) → after w s f ≡ got x r
      → ((t : List ℕ) → s ≡ w ++ t → f t ≡ got x r → P) → P
  after_then w s f e k = let h = after-got w s f e in k h.0 h.1 h.2

  pub got_same : (P : A → List ℕ → Type 0) {a : A} {s : List ℕ} → got a s ≡ got x r → P a s → P x r
  got_same P {a} {s} e p = let n : a ≡ x = cc in let m : s ≡ r = cc in subst₂ P n m p

-- a word is read where it stands
pub after_self : {A : Type 0} (w s : List ℕ) (f : List ℕ → Got A) → after w (w ++ s) f ≡ f s
unfolding after pick
after_self [] s f = refl
after_self (w ∷ ws) s f = rw (eq-eqb w w refl) (after_self ws s f)

-- what follows a word, by whether it stands there
module _ {A : Type 0} where
  choose-not : (q : Bool) (t : Bool) (g : Got A) → pick q t false ≡ false → (t ≡ false → g ≡ none) → pick q g none ≡ none
  unfolding pick
  choose-not true t g e k = k e
  choose-not false t g e k = refl

  pub after_word-not : (w t : List ℕ) (f : List ℕ → Got A) → word_at w t ≡ false → after w t f ≡ none
  unfolding word_at after
  after_word-not [] t f e = absurd (false≢true (sym e))
  after_word-not (x ∷ w) [] f e = refl
  after_word-not (x ∷ w) (b ∷ t) f e = choose-not (eqb b x) (word_at w t) (after w t f) e (after_word-not w t f)

  choose-is : (q : Bool) (t : Bool) (g : Got A) → pick q t false ≡ true → (pick q g none ≡ g) × (t ≡ true)
  unfolding pick
  choose-is true t g e = (refl, e)
  choose-is false t g e = absurd (false≢true e)

  pub after_word : (w t : List ℕ) (f : List ℕ → Got A) → word_at w t ≡ true → (after w t f ≡ f (drop (length w) t)) × (length w ≤ length t)
  unfolding word_at after
  after_word [] t f e = (refl, omega arith)
  after_word (x ∷ w) [] f e = absurd (false≢true e)
  after_word (x ∷ w) (b ∷ t) f e =
      let h = choose-is (eqb b x) (word_at w t) (after w t f) e in
      let k = after_word w t f h.1 in
      (h.0 ∙ k.0, omega (arith, k.1))
