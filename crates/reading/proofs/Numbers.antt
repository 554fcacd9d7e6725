-- Decimals, alone and at a line's end: what is read has the text it was read from, and every decimal is read where no digit follows.
use Rattle.std.specs.Prelude.{◌≡◌, ◌∷◌, ◌++◌, ◌+◌, ◌*◌, ◌-◌, ◌/◌, ◌%◌, ◌^◌, ◌<◌, ◌≤◌}
use Rattle.base.specs.Kit.{refl, ap, sym, ◌∙◌, Bool, true, false, not, and-eq-true_iff, List, [], append_assoc, ℕ, zero, suc, arith, ltb, leb, eqb, ltb-true, ltb-false, not-true, leb-true, eqb-true, eqb-false, lt-ltb, le-leb, lt-leb, ne_eqb}
use Rattle.base.specs.Pick.{pick}
use Rattle.base.proofs.Choice.{by_test}
use Rattle.sheet.specs.Sheet.{decimal}
use Rattle.sheet.proofs.Decimal.{decimal-one, decimal-more}
use Rattle.reading.specs.Read.{got, next, digit, digits, number, word_number}
use Rattle.reading.proofs.Gets.{none-got, cases-got, guard-got, next-then, after_then, got_same, after_self}

-- a digit, by its bounds
pub digit-true : (b : ℕ) → digit b ≡ true → (48 ≤ b) × (b ≤ 57)
unfolding digit
digit-true b e =
    let h = (and-eq-true_iff (leb 48 b) (leb b 57)).0 e in
    (leb-true 48 b h.0, leb-true b 57 h.1)

pub true-digit : (b : ℕ) → 48 ≤ b → b ≤ 57 → digit b ≡ true
unfolding digit
true-digit b h g = rw (le-leb 48 b h, le-leb b 57 g)

pub false-digit : (b : ℕ) → 57 < b → digit b ≡ false
unfolding digit
false-digit b h = rw (lt-leb b 57 h, le-leb 48 b (omega arith))

-- one digit more
snoc : (x b : ℕ) → 1 ≤ x → 10 * x + (b - 48) < 2 ^ 64 → 48 ≤ b → b ≤ 57 → decimal (10 * x + (b - 48)) ≡ decimal x ++ (b ∷ [])
snoc x b p q l u =
    let h : (10 * x + (b - 48)) / 10 ≡ x = omega arith in
    let g : 48 + (10 * x + (b - 48)) % 10 ≡ b = omega arith in
    decimal-more (10 * x + (b - 48)) (omega arith) q ∙ rw (h, g)

-- what is read from x on, x being what the digits before said
module _ {y : ℕ} {r : List ℕ} where
  stop : (x : ℕ) (s : List ℕ) → x < 2 ^ 64 → got x s ≡ got y r → (decimal x ++ s ≡ decimal y ++ r) × (y < 2 ^ 64)
  stop x s q e = let g : x ≡ y = cc in let h : s ≡ r = cc in (rw (g, h), rw g at q)

  digits-text : (x : ℕ) (s : List ℕ) → 1 ≤ x → x < 2 ^ 64 → digits x s ≡ got y r → (decimal x ++ s ≡ decimal y ++ r) × (y < 2 ^ 64)
  unfolding digits
  digits-text x [] p q e = stop x [] q e
  digits-text x (b ∷ s) p q e =
      cases-got (digit b) _ _ e
      (λ t w.
      let d = digit-true b t in
      let g = guard-got (ltb (10 * x + (b - 48)) (2 ^ 64)) (digits (10 * x + (b - 48)) s) w in
      let f = ltb-true (10 * x + (b - 48)) (2 ^ 64) g.0 in
      let k = digits-text (10 * x + (b - 48)) s (omega arith) f g.1 in
      (sym (append_assoc (decimal x) (b ∷ []) s) ∙ ap (λ (l : List ℕ). l ++ s) (sym (snoc x b p f d.0 d.1)) ∙ k.0, k.1))
      (λ t w. stop x (b ∷ s) q w)

  pub number-text : (s : List ℕ) → number s ≡ got y r → (s ≡ decimal y ++ r) × (y < 2 ^ 64)
  unfolding number
  number-text [] e = absurd (none-got e)
  number-text (b ∷ s) e =
      let g = guard-got (digit b) _ e in
      let d = digit-true b g.0 in
      let one : decimal (b - 48) ≡ b ∷ [] = decimal-one (b - 48) (omega arith) ∙ ap (λ (n : ℕ). n ∷ []) (omega arith) in
      cases-got (eqb b 48) _ _ g.1
      (λ t w.
      let z : b - 48 ≡ 0 = omega (arith, eqb-true b 48 t) in
      let k = stop (b - 48) s (omega arith) (rw z w) in
      (ap (λ (l : List ℕ). l ++ s) (sym one) ∙ k.0, k.1))
      (λ t w.
      let n = eqb-false b 48 t in
      let k = digits-text (b - 48) s (omega arith) (omega arith) w in
      (ap (λ (l : List ℕ). l ++ s) (sym one) ∙ k.0, k.1))

-- EVERY DECIMAL IS READ, where no digit follows.
unfoldable pub no_digit : List ℕ → Bool
no_digit [] = true
no_digit (b ∷ s) = not (digit b)

last-digit : (x : ℕ) (s : List ℕ) → 10 ≤ x → x < 2 ^ 64 → digits (x / 10) ((48 + x % 10) ∷ s) ≡ digits x s
unfolding digits pick
last-digit x s h g =
    let e : 10 * (x / 10) + (48 + x % 10 - 48) ≡ x = omega arith in
    rw (true-digit (48 + x % 10) (omega arith) (omega arith), e, lt-ltb x (2 ^ 64) g)

-- the digits of x and then s are read as s is from x on
read_one : (x : ℕ) (s : List ℕ) → 1 ≤ x → x < 10 → number (decimal x ++ s) ≡ digits x s
unfolding number pick
read_one x s h l =
    let e : 48 + x - 48 ≡ x = omega arith in
    rw (decimal-one x l, true-digit (48 + x) (omega arith) (omega arith), ne_eqb (48 + x) 48 (omega arith), e)

read-on : (n x : ℕ) (s : List ℕ) → 1 ≤ x → x < 10 ^ n → x < 2 ^ 64 → number (decimal x ++ s) ≡ digits x s
read-on zero x s h l g = absurd (omega arith)
read-on (suc n) x s h l g =
    by_test (ltb x 10) (λ t. read_one x s h (ltb-true x 10 t))
    (λ f.
    let k : 10 ≤ x = ltb-false x 10 f in
    rw (decimal-more x k g, append_assoc (decimal (x / 10)) ((48 + x % 10) ∷ []) s)
    (read-on n (x / 10) ((48 + x % 10) ∷ s) (omega arith) (omega arith) (omega arith) ∙ last-digit x s k g))

ended : (x : ℕ) (s : List ℕ) → no_digit s ≡ true → digits x s ≡ got x s
unfolding digits no_digit pick
ended x [] e = refl
ended x (b ∷ s) e = rw (not-true (digit b) e)

zero_of : (x : ℕ) (s : List ℕ) → x ≡ 0 → number (decimal x ++ s) ≡ got x s
unfolding number digit pick
zero_of x s z = rw (z, decimal-one 0 (omega arith))

number_of : (x : ℕ) (s : List ℕ) → x < 2 ^ 64 → no_digit s ≡ true → number (decimal x ++ s) ≡ got x s
number_of x s g e =
    by_test (eqb x 0) (λ t. zero_of x s (eqb-true x 0 t))
    (λ f.
    let h = eqb-false x 0 f in
    read-on 20 x s (omega arith) (omega arith) g ∙ ended x s e)

-- A WORD, A DECIMAL AND THE LINE'S END.
joined : (w : List ℕ) (n : ℕ) (r : List ℕ) {s s₁ s₂ : List ℕ} → s ≡ w ++ s₁ → s₁ ≡ decimal n ++ s₂ → s₂ ≡ 10 ∷ r
    → s ≡ (w ++ decimal n ++ (10 ∷ [])) ++ r
joined w n r h h₁ h₂ = rw (h, h₁, h₂) (simp append_assoc)

pub word_number-text : (w s : List ℕ) {n : ℕ} {r : List ℕ} → word_number w s ≡ got n r
    → (s ≡ (w ++ decimal n ++ (10 ∷ [])) ++ r) × (n < 2 ^ 64)
unfolding word_number
word_number-text w s g =
    after_then w s _ g λ s₁ t g₁.
    next-then (number s₁) _ g₁ λ m s₂ gm g₂.
    after_then (10 ∷ []) s₂ _ g₂ λ s₃ t₂ g₃.
    let a = number-text s₁ gm in
    got_same (λ n r. (s ≡ (w ++ decimal n ++ (10 ∷ [])) ++ r) × (n < 2 ^ 64)) g₃ (joined w m s₃ t a.0 t₂, a.1)

line_ends : (r : List ℕ) → no_digit (10 ∷ r) ≡ true
unfolding no_digit digit
line_ends r = refl

pub word_number_of : (w : List ℕ) (n : ℕ) (r : List ℕ) → n < 2 ^ 64 → word_number w ((w ++ decimal n ++ (10 ∷ [])) ++ r) ≡ got n r
unfolding word_number next
word_number_of w n r h =
    let split : (w ++ decimal n ++ (10 ∷ [])) ++ r ≡ w ++ (decimal n ++ (10 ∷ r)) = simp append_assoc in
    rw (split, after_self w (decimal n ++ (10 ∷ r)), number_of n (10 ∷ r) h (line_ends r), after_self (10 ∷ []) r)
