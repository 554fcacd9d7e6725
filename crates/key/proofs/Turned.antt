-- A little-endian word and the bytes that it was read from. (`eight_at` has the number itself for its clause, and needs none of this.)
use Rattle.std.specs.Prelude.{◌≡◌, ◌∷◌, ◌+◌, ◌*◌, ◌/◌, ◌%◌, ◌≤◌, ◌<◌}
use Rattle.base.specs.Kit.{refl, ◌∙◌, ap, List, [], ℕ, zero, suc, add-one, arith, length, get_or, drop-cons, take, drop}
use Rattle.node.specs.Le.{le, u64_at}
use Rattle.key.specs.Ikey.{be}
use Rattle.key.proofs.Ikey.{be_of-take}

-- the low n bytes of a number, the lowest first
unfoldable pub low_first : ℕ → ℕ → List ℕ
low_first zero x = []
low_first (suc n) x = x % 256 ∷ low_first n (x / 256)

-- They are those that the word was read from; so the word turned is their number.
module _ (s : List ℕ) (fits : (i : ℕ) → get_or s i 0 < 256) where
  low-first : (n at : ℕ) → at + n ≤ length s → low_first n (le n s at) ≡ take n (drop at s)
  unfolding low_first le
  low-first zero at h = refl
  low-first (suc n) at h =
      let a = get_or s at 0 in
      let x = le n s (at + 1) in
      let low : (a + 256 * x) % 256 ≡ a = omega (arith, fits at) in
      let high : (a + 256 * x) / 256 ≡ x = omega (arith, fits at) in
      rw (low, high, low-first n (at + 1) (omega arith), drop-cons s at 0 (omega arith), add-one at)

  pub turned_word : (at : ℕ) → at + 8 ≤ length s → be 8 (low_first 8 (u64_at s at)) ≡ be 8 (drop at s)
  unfolding u64_at
  turned_word at h = ap (be 8) (low-first 8 at h) ∙ be_of-take 8 (drop at s)
