-- Laws of little-endian numbers: std's number of the bytes is the definition's.
use Rattle.std.specs.Prelude.{◌≡◌, ◌+◌, ◌*◌, ◌^◌, ◌<◌}
use Rattle.std.specs.Int.{byte_worth, sum_through}
use Rattle.std.specs.List.{slice_index}
use Rattle.base.specs.Kit.{◌∙◌, ap, List, ℕ, zero, suc, mul_assoc, pow-suc, arith, get_or, take, drop, get_or-take, get_or-drop}
use Rattle.node.specs.Le.{le}

-- one byte more is the highest of the number
le-last : (n : ℕ) (s : List ℕ) (at : ℕ) → le (suc n) s at ≡ le n s at + get_or s (at + n) 0 * 256 ^ n
unfolding le
le-last zero s at = let e : at + 0 ≡ at = omega arith in omega (arith, ap (λ (i : ℕ). get_or s i 0) e)
le-last (suc n) s at =
    let e : at + 1 + n ≡ at + suc n = omega arith in
    let h : le (suc n) s (at + 1) ≡ le n s (at + 1) + get_or s (at + suc n) 0 * 256 ^ n = rw e at (le-last n s (at + 1)) in
    let x = get_or s (at + suc n) 0 in
    omega (arith, h, mul_assoc x (256 ^ n) 256, ap (λ (p : ℕ). x * p) (pow-suc 256 n))

-- the first bytes from `at` on, each by its worth
module _ (s : List ℕ) (at m : ℕ) {b : List ℕ} (e : b ≡ take m (drop at s)) where
  byte : (i : ℕ) → i < m → slice_index b i ≡ get_or s (at + i) 0
  byte i h = rw e (get_or-take m (drop at s) i 0 h ∙ get_or-drop at s i 0)

  pub summed : (n : ℕ) → n < m → sum_through (λ i. byte_worth i (slice_index b i)) n ≡ le (suc n) s at
  unfolding le
  summed zero h = byte zero h ∙ (let e : at + 0 ≡ at = omega arith in omega (arith, ap (λ (i : ℕ). get_or s i 0) e))
  summed (suc n) h = rw (summed n (omega arith), byte (suc n) h, le-last (suc n) s at)
