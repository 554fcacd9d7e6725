-- Pieces written one behind the other are one piece, written at once; and the bytes of single numbers and rows. Assumes nothing.
use Rattle.std.specs.Prelude.{◌≡◌, ◌++◌, ◌∷◌, ◌%◌, ◌+◌, ◌/◌, ◌<◌, ◌^◌, ◌≤◌}
use Rattle.base.specs.Kit.{◌∙◌, ap, refl, sym, List, [], suc, zero, ℕ, mod-eq_of_lt, pow-suc, suc-add, zero-add, arith, get_or, length, length-append, replicate}
use Rattle.sheet.proofs.Paste.{paste-append}
use Rattle.building.specs.Build.{le_bytes, words}
use Rattle.building.specs.CodeWritten.{put}

-- The output o is `out` with a, of n bytes, in it from `at` on.
pub record Wrote (out : List ℕ) (at : ℕ) (o a : List ℕ) (n : ℕ) : Type 0 where
  pub same : o ≡ put out at a
  pub size : length a ≡ n

-- one piece behind those that are written
pub and_then : {out o p a : List ℕ} {at n : ℕ} → Wrote out at o a n → (b : List ℕ) (m : ℕ) → length b ≡ m → p ≡ put o (at + n) b → at + n + m ≤ length out
    → Wrote out at p (a ++ b) (n + m)
and_then {out} {o} {p} {a} {at} {n} w b m l e h =
    record {
      same =
          e ∙ ap (λ (r : List ℕ). put r (at + n) b) w.same
          ∙ paste-append out at a b (at + n) (ap (λ (y : ℕ). at + y) (sym w.size)) (omega arith);
      size = omega (arith, length-append a b, w.size);
    }

-- zeros
pub zero-bytes : (n : ℕ) → le_bytes n 0 ≡ replicate n 0
unfolding le_bytes
zero-bytes zero = refl
zero-bytes (suc n) = ap (λ (r : List ℕ). 0 ∷ r) (zero-bytes n)

-- a number in more bytes than it needs
pub low-bytes : (a b x : ℕ) → x < 256 ^ a → le_bytes (a + b) x ≡ le_bytes a x ++ replicate b 0
unfolding le_bytes
low-bytes zero b x h = let e : x ≡ 0 = omega arith in rw (zero-add, e) (zero-bytes b)
low-bytes (suc a) b x h =
    let l : x / 256 < 256 ^ a = omega (arith, pow-suc 256 a) in
    rw suc-add (ap (λ (r : List ℕ). x % 256 ∷ r) (low-bytes a b (x / 256) l))

-- bytes as words of one byte
pub byte-words : (row : List ℕ) → ((i : ℕ) → i < length row → get_or row i 0 < 256) → words 1 (length row) row ≡ row
unfolding words le_bytes
byte-words [] h = refl
byte-words (x ∷ row) h = rw (mod-eq_of_lt (h 0 (omega arith)), byte-words row (λ i k. h (suc i) (omega arith))) refl

-- a row, zero past what is used
pub words-padded : (w n m : ℕ) (xs : List ℕ) → words w n (xs ++ replicate m 0) ≡ words w n xs
unfolding words
words-padded w zero m xs = refl
words-padded w (suc n) zero [] = refl
words-padded w (suc n) (suc m) [] = ap (λ (r : List ℕ). le_bytes w 0 ++ r) (words-padded w n m [])
words-padded w (suc n) m (x ∷ xs) = ap (λ (r : List ℕ). le_bytes w x ++ r) (words-padded w n m xs)

pub ruleset bytes_words = (byte-words)
