-- What one turn of a loop adds to the number that the first n bytes make: one byte more.
use Rattle.std.specs.Int.{w64, from_be_bytes}
use Rattle.std.specs.Prelude.{◌≡◌, ◌∷◌, ◌+◌, ◌*◌, ◌^◌}
use Rattle.base.specs.Kit.{◌∙◌, ap, take, List, [], ℕ, zero, suc, pow-suc, mul_assoc, arith, get_or}
use Rattle.key.specs.Ikey.{be}
use Rattle.key.proofs.Ikey.{be_of-take}

-- one byte more is the lowest of the number
pub be-more : (n : ℕ) (s : List ℕ) → be (suc n) s ≡ be n s * 256 + get_or s n 0
unfolding be
be-more zero [] = omega arith
be-more zero (a ∷ s) = omega arith
be-more (suc n) [] = omega arith
be-more (suc n) (a ∷ s) = omega (arith, be-more n s, mul_assoc a (256 ^ n) 256, ap (λ (x : ℕ). a * x) (pow-suc 256 n))

-- eight bytes as a plain sum, which is std's number of them
eight : (s : List ℕ)
    → get_or s 0 0 * 72057594037927936 + get_or s 1 0 * 281474976710656 + get_or s 2 0 * 1099511627776 + get_or s 3 0 * 4294967296
    + get_or s 4 0 * 16777216 + get_or s 5 0 * 65536 + get_or s 6 0 * 256 + get_or s 7 0 ≡ be 8 s
unfolding be
eight s = omega (arith, be-more 7 s, be-more 6 s, be-more 5 s, be-more 4 s, be-more 3 s, be-more 2 s, be-more 1 s, be-more 0 s)

pub be-eight : (s : List ℕ) → from_be_bytes w64 s ≡ be 8 s
be-eight s = eight s

-- the same of a word w that is the first eight bytes of s
pub be_eight_at : (s : List ℕ) (w : List ℕ) → w ≡ take 8 s → from_be_bytes w64 w ≡ be 8 s
be_eight_at s w e = be-eight w ∙ ap (be 8) e ∙ be_of-take 8 s
