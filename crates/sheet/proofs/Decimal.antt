-- Decimals: their digits from the last to the first, how many there are, and what one store of a digit adds. The bound of
-- twenty digits is enough for every number below 2^64, so that it drops out of the laws.
use Rattle.std.proofs.lemmas.Grind.{common_steps}
use Rattle.std.specs.Prelude.{◌≡◌, ◌∷◌, ◌++◌, ◌+◌, ◌-◌, ◌*◌, ◌/◌, ◌%◌, ◌^◌, ◌≤◌, ◌<◌}
use Rattle.base.specs.Kit.{refl, sym, subst, ltb-true, add-one, paste-zero, pow-suc, one-le-pow, Bool, true, false, List, [], ℕ, zero, suc, arith, ltb, length, set, length-append, paste, lt-ltb, le-ltb}
use Rattle.base.specs.Pick.{pick}
use Rattle.sheet.specs.Sheet.{decimal_in, decimal}
use Rattle.sheet.proofs.Paste.{paste-last}

-- a single digit
pub decimal-one : (x : ℕ) → x < 10 → decimal x ≡ (48 + x) ∷ []
unfolding decimal decimal_in pick
decimal-one x h = rw (lt-ltb x 10 h)

-- more than one: the last is that of the remainder, and those before it are the quotient's
pub decimal-more : (x : ℕ) → 10 ≤ x → x < 2 ^ 64 → decimal x ≡ decimal (x / 10) ++ ((48 + x % 10) ∷ [])
unfolding decimal decimal_in pick
decimal-more x h g = grind (arith, common_steps)

pub decimal_one_length : (x : ℕ) → x < 10 → length (decimal x) ≡ 1
decimal_one_length x h = rw (decimal-one x h)

-- as many digits as powers of ten that are no greater, beside the first
size : (n k x : ℕ) → k < n → 10 ^ k ≤ x → x < 10 * 10 ^ k → length (decimal_in n x) ≡ k + 1
unfolding decimal_in pick
size zero k x h l u = absurd (omega arith)
size (suc n) zero x h l u = rw (lt-ltb x 10 (omega arith))
size (suc n) (suc k) x h l u =
    let e : 10 ^ suc k ≡ 10 ^ k * 10 = pow-suc 10 k in
    let p : 1 ≤ 10 ^ k = one-le-pow k 10 (omega arith) in
    let r : length (decimal_in n (x / 10)) ≡ k + 1 = size n k (x / 10) (omega arith) (omega arith) (omega arith) in
    rw (le-ltb x 10 (omega arith)) (omega (arith, length-append (decimal_in n (x / 10)) ((48 + x % 10) ∷ []), r))

pub decimal_size : (k x : ℕ) → k < 20 → 10 ^ k ≤ x → x < 10 * 10 ^ k → length (decimal x) ≡ k + 1
unfolding decimal
decimal_size k x = size 20 k x

-- One to twenty digits: at each turn one digit, alone or behind what came before.
one_more_lem : (b : Bool) (x y n : ℕ) (l : List ℕ) → length l ≤ n
    → (1 ≤ length (pick b (x ∷ []) (l ++ (y ∷ [])))) × (length (pick b (x ∷ []) (l ++ (y ∷ []))) ≤ suc n)
unfolding pick
one_more_lem true x y n l h = omega arith
one_more_lem false x y n l h = omega (arith, length-append l (y ∷ []))

at_most : (n x : ℕ) → length (decimal_in n x) ≤ n
unfolding decimal_in
at_most zero x = omega arith
at_most (suc n) x = (one_more_lem (ltb x 10) (48 + x) (48 + x % 10) n (decimal_in n (x / 10)) (at_most n (x / 10))).1

pub decimal_length : (x : ℕ) → (1 ≤ length (decimal x)) × (length (decimal x) ≤ 20)
unfolding decimal decimal_in
decimal_length x = one_more_lem (ltb x 10) (48 + x) (48 + x % 10) 19 (decimal_in 19 (x / 10)) (at_most 19 (x / 10))

-- The last m digits of x, the highest of them first; all of them are its decimal.
unfoldable pub lasts : ℕ → ℕ → List ℕ
lasts zero x = []
lasts (suc m) x = lasts m (x / 10) ++ ((48 + x % 10) ∷ [])

lasts-length : (m x : ℕ) → length (lasts m x) ≡ m
unfolding lasts
lasts-length zero x = refl
lasts-length (suc m) x = omega (arith, length-append (lasts m (x / 10)) ((48 + x % 10) ∷ []), lasts-length m (x / 10))

lasts-are : (n x : ℕ) → lasts (length (decimal_in n x)) x ≡ decimal_in n x
unfolding lasts decimal_in pick
lasts-are zero x = refl
lasts-are (suc n) x = go (ltb x 10) refl (decimal_in n (x / 10)) (lasts-are n (x / 10))
  where
    go : (b : Bool) → ltb x 10 ≡ b → (before : List ℕ) → lasts (length before) (x / 10) ≡ before
        → lasts (length (pick b ((48 + x) ∷ []) (before ++ ((48 + x % 10) ∷ [])))) x ≡ pick b ((48 + x) ∷ []) (before ++ ((48 + x % 10) ∷ []))
    go true e before h = let d : x % 10 ≡ x = omega (arith, ltb-true x 10 e) in rw d
    go false e before h = rw (length-append before ((48 + x % 10) ∷ []), add-one, h)

-- THE LOOP that stores them, from the highest place down: what it makes of the places from `at` to i is the last i - at digits. At its
-- begin these are all; one turn stores the lowest; at its end none is left.
module _ (at i : ℕ) (x : ℕ) where
  pub lasts_all : i ≡ at + length (decimal x) → lasts (i - at) x ≡ decimal x
  unfolding decimal
  lasts_all h = let e : i - at ≡ length (decimal x) = omega arith in rw e (lasts-are 20 x)

  pub lasts_more : (out : List ℕ) → at < i → i ≤ length out
      → paste (set out (i - 1) (48 + x % 10)) at (lasts (i - 1 - at) (x / 10)) (length (lasts (i - 1 - at) (x / 10)))
      ≡ paste out at (lasts (i - at) x) (length (lasts (i - at) x))
  unfolding lasts
  lasts_more out h g =
      let l = lasts (i - 1 - at) (x / 10) in
      let n : i - at ≡ suc (i - 1 - at) = omega arith in
      let p : i - 1 ≡ at + length l = omega (arith, lasts-length (i - 1 - at) (x / 10)) in
      rw n
      (subst (λ (j : ℕ). paste (set out j (48 + x % 10)) at l (length l) ≡ paste out at (lasts (suc (i - 1 - at)) x) (length (lasts (suc (i - 1 - at)) x)))
      (sym p) (paste-last out at l (48 + x % 10) (omega arith)))

  pub lasts_none : (out : List ℕ) → i ≤ at → paste out at (lasts (i - at) x) (length (lasts (i - at) x)) ≡ out
  unfolding lasts
  lasts_none out h = let e : i - at ≡ 0 = omega arith in rw e (sym (paste-zero out at []))
