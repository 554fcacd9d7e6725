-- Numbers written into the output: what one turn of each loop adds. Assumes nothing.
use Rattle.std.specs.Prelude.{◌≡◌, ◌∷◌, ◌++◌, ◌%◌, ◌*◌, ◌+◌, ◌-◌, ◌/◌, ◌^◌, ◌<◌, ◌≤◌}
use Rattle.std.specs.Int.{w64, byte_at, bytes_low_first, to_le_bytes}
use Rattle.base.specs.Kit.{min, replicate, append-nil, suc-add, leb, leb-true, leb-false, ◌∙◌, ap, ap₂, refl, sym, zero, suc, div-one, div-div-eq-div-mul, pow-suc, take, List, [], ℕ, add-one, arith, drop, get_or, length, drop-cons, paste-zero}
use Rattle.base.proofs.Choice.{by_test}
use Rattle.base.proofs.Count.{left-more}
use Rattle.sheet.proofs.Paste.{paste-append}
use Rattle.building.specs.Build.{le_bytes, words}
use Rattle.building.specs.CodeWritten.{put}
use Rattle.building.proofs.Stands.{le_bytes-length, words-length}
use Rattle.image_out.proofs.PutRows.{low-bytes}

-- the library's bytes of a number, the lowest first, from byte i on
byte_is : (i x : ℕ) → byte_at i x ≡ x / 256 ^ i % 256
byte_is zero x = ap (λ (y : ℕ). y % 256) (sym (div-one x))
byte_is (suc i) x = refl

bytes_are : (k i x : ℕ) → bytes_low_first i k x ≡ le_bytes k (x / 256 ^ i)
unfolding le_bytes
bytes_are zero i x = refl
bytes_are (suc k) i x =
    let e : x / 256 ^ suc i ≡ x / 256 ^ i / 256 = ap (λ (p : ℕ). x / p) (pow-suc 256 i) ∙ sym (div-div-eq-div-mul x (256 ^ i) 256) in
    ap₂ (λ (y : ℕ) (l : List ℕ). y ∷ l) (byte_is i x) (bytes_are k (suc i) x ∙ ap (le_bytes k) e)

eight_bytes : (x : ℕ) → to_le_bytes w64 x ≡ le_bytes 8 x
eight_bytes x = bytes_are 8 0 x ∙ ap (le_bytes 8) (div-one x)

-- the low bytes alone
low_part : (a b x : ℕ) → take a (le_bytes (a + b) x) ≡ le_bytes a x
unfolding le_bytes
low_part zero b x = refl
low_part (suc a) b x = rw suc-add (ap (λ (r : List ℕ). x % 256 ∷ r) (low_part a b (x / 256)))

-- a number of eight bytes in any number of bytes: its low ones, and zeros past the eighth
low_then_zeros : (n x : ℕ) → x < 2 ^ 64 → le_bytes n x ≡ le_bytes (min n 8) x ++ replicate (n - min n 8) 0
low_then_zeros n x h =
    by_test (leb n 8)
    (λ t.
    let l : n ≤ 8 = leb-true n 8 t in
    let m : min n 8 ≡ n = omega arith in
    let z : n - n ≡ 0 = omega arith in
    rw (m, z, append-nil) refl)
    (λ f.
    let l : 8 < n = leb-false n 8 f in
    let m : min n 8 ≡ 8 = omega arith in
    let e : n ≡ 8 + (n - 8) = omega arith in
    rw m (ap (λ (k : ℕ). le_bytes k x) e ∙ low-bytes 8 (n - 8) x (omega arith)))

-- as the code takes them from the library's eight
pub bytes_filled : (n x : ℕ) → x < 2 ^ 64 → (own : List ℕ) → own ≡ take (min n 8) (to_le_bytes w64 x)
    → own ++ replicate (n - length own) 0 ≡ le_bytes n x
bytes_filled n x h own e =
    let m : min n 8 + (8 - min n 8) ≡ 8 = omega arith in
    let o : own ≡ le_bytes (min n 8) x =
    e ∙ ap (take (min n 8)) (eight_bytes x ∙ ap (λ (k : ℕ). le_bytes k x) (sym m)) ∙ low_part (min n 8) (8 - min n 8) x in
    rw (o, le_bytes-length (min n 8) x) (sym (low_then_zeros n x h))

-- words of w bytes, the next at `to`
module _ (w : ℕ) (out row : List ℕ) (i at to : ℕ) where
  pub words_more : i < length row → at + w * (length row - i) ≤ length out → to ≡ at + w
      → put (put out at (le_bytes w (get_or row i 0))) to (words w (length row - (i + 1)) (drop (i + 1) row))
      ≡ put out at (words w (length row - i) (drop i row))
  unfolding words
  words_more h k e =
      let m : at + w * (length row - (i + 1) + 1) ≤ length out = rw (add-one, ← left-more (length row) i h) k in
      rw (left-more (length row) i h, drop-cons row i 0 h, ← add-one i)
      (paste-append out at (le_bytes w (get_or row i 0)) (words w (length row - (i + 1)) (drop (i + 1) row)) to
      (omega (arith, le_bytes-length w (get_or row i 0))) (omega (arith, words-length w (length row - (i + 1)) (drop (i + 1) row))))

  pub words-none : length row ≤ i → out ≡ put out at (words w (length row - i) (drop i row))
  unfolding words
  words-none h = let e : length row - i ≡ 0 = omega arith in rw e (paste-zero out at [])

-- what a row rests on
pub ruleset rows_put = (words_more, words-none)
