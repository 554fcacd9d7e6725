-- Bytes that stand somewhere in an image, and what is read there: parts of them, little-endian numbers, rows of words.
-- Assumes nothing.
use Rattle.std.proofs.lemmas.Grind.{common_steps}
use Rattle.std.specs.Prelude.{◌≡◌, ◌∷◌, ◌++◌, ◌+◌, ◌*◌, ◌/◌, ◌%◌, ◌^◌, ◌≤◌, ◌<◌}
use Rattle.base.specs.Kit.{refl, ap, sym, ◌∙◌, List, [], ℕ, zero, suc, pow-succ', mul_comm, arith, length, get_or, take, drop, length-append, length-take, length-drop, get_or-append-add, ext_get_or, get_or-take, get_or-drop}
use Rattle.key.specs.Part.{part}
use Rattle.node.specs.Le.{le}
use Rattle.building.specs.Build.{le_bytes, words}

-- The bytes bs stand in the image from `at` on.
pub record Stands (image : List ℕ) (at : ℕ) (bs : List ℕ) : Type 0 where
  pub fits : at + length bs ≤ length image
  pub same : (i : ℕ) → i < length bs → get_or image (at + i) 0 ≡ get_or bs i 0

pub le_bytes-length : (w x : ℕ) → length (le_bytes w x) ≡ w
unfolding le_bytes
le_bytes-length zero x = refl
le_bytes-length (suc w) x = ap suc (le_bytes-length w (x / 256))

pub words-length : (w n : ℕ) (xs : List ℕ) → length (words w n xs) ≡ w * n
unfolding words
words-length w zero xs = omega arith
words-length w (suc n) [] = omega (arith, length-append (le_bytes w 0) (words w n []), le_bytes-length w 0, words-length w n [])
words-length w (suc n) (x ∷ xs) = omega (arith, length-append (le_bytes w x) (words w n xs), le_bytes-length w x, words-length w n xs)

low : (x p : ℕ) → x % (p * 256) ≡ x % 256 + 256 * (x / 256 % p)
low x p = grind (arith, common_steps)

module _ (image : List ℕ) where
  pub stands-left : (at : ℕ) (a b : List ℕ) → Stands image at (a ++ b) → Stands image at a
  stands-left at a b h = grind (arith, common_steps)

  pub stands_right : (at : ℕ) (a b : List ℕ) → Stands image at (a ++ b) → (to : ℕ) → at + length a ≡ to → Stands image to b
  stands_right at a b h to e =
      record {
        fits = omega (arith, h.fits, length-append a b);
        same = λ i l.
            let f : to + i ≡ at + (length a + i) = omega arith in
            rw f (h.same (length a + i) (omega (arith, length-append a b)) ∙ get_or-append-add a b i 0);
      }

  -- one byte
  stands_head : (at a : ℕ) (b : List ℕ) → Stands image at (a ∷ b) → get_or image at 0 ≡ a
  stands_head at a b h = let e : at + 0 ≡ at = omega arith in rw e at (h.same 0 (omega arith))

  -- a number
  pub stands-le : (w x at : ℕ) → Stands image at (le_bytes w x) → le w image at ≡ x % 256 ^ w
  unfolding le le_bytes
  stands-le zero x at h = omega arith
  stands-le (suc w) x at h =
      let r : Stands image (at + 1) (le_bytes w (x / 256)) = stands_right at (x % 256 ∷ []) (le_bytes w (x / 256)) h (at + 1) refl in
      rw (stands_head at (x % 256) (le_bytes w (x / 256)) h, stands-le w (x / 256) (at + 1) r, pow-succ', mul_comm 256 (256 ^ w))
      (sym (low x (256 ^ w)))

  -- one word of several
  pub stands-words : (w n : ℕ) (xs : List ℕ) (i at : ℕ) → i < n → Stands image at (words w n xs) → le w image (at + w * i) ≡ get_or xs i 0 % 256 ^ w
  unfolding words
  stands-words w zero xs i at l h = absurd (omega arith)
  stands-words w (suc n) [] zero at l h =
      let e : at + w * 0 ≡ at = omega arith in
      rw e (stands-le w 0 at (stands-left at (le_bytes w 0) (words w n []) h))
  stands-words w (suc n) (x ∷ xs) zero at l h =
      let e : at + w * 0 ≡ at = omega arith in
      rw e (stands-le w x at (stands-left at (le_bytes w x) (words w n xs) h))
  stands-words w (suc n) [] (suc i) at l h =
      let e : at + w * suc i ≡ at + w + w * i = omega arith in
      rw e (stands-words w n [] i (at + w) (omega arith)
      (stands_right at (le_bytes w 0) (words w n []) h (at + w) (ap (λ (y : ℕ). at + y) (le_bytes-length w 0))))
  stands-words w (suc n) (x ∷ xs) (suc i) at l h =
      let e : at + w * suc i ≡ at + w + w * i = omega arith in
      rw e (stands-words w n xs i (at + w) (omega arith)
      (stands_right at (le_bytes w x) (words w n xs) h (at + w) (ap (λ (y : ℕ). at + y) (le_bytes-length w x))))

  -- a byte string
  pub stands-part : (at : ℕ) (bs : List ℕ) → Stands image at bs → part image at (length bs) ≡ bs
  unfolding part
  stands-part at bs h =
      let l : length (take (length bs) (drop at image)) ≡ length bs =
      omega (arith, length-take (length bs) (drop at image), length-drop at image, h.fits) in
      ext_get_or 0 (take (length bs) (drop at image)) bs l
      (λ i j. get_or-take (length bs) (drop at image) i 0 (omega arith) ∙ get_or-drop at image i 0 ∙ h.same i (omega arith))

-- a list stands in itself
pub stands_self : (s : List ℕ) → Stands s 0 s
stands_self s = grind (arith, common_steps)
