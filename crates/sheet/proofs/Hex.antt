-- Keys in hex: how many digits there are, and what one turn of the loop that writes them adds.
use Rattle.std.proofs.lemmas.Grind.{common_steps}
use Rattle.std.specs.Prelude.{◌≡◌, ◌∷◌, ◌+◌, ◌*◌, ◌/◌, ◌%◌, ◌≤◌, ◌<◌}
use Rattle.base.specs.Kit.{refl, List, [], ℕ, arith, length, get_or, drop, set, drop_of_length-le, paste, paste-zero}
use Rattle.sheet.specs.Sheet.{hex_digit, hex_bytes, hex_key}

pub hex_bytes_length : (s : List ℕ) → length (hex_bytes s) ≡ 2 * length s
unfolding hex_bytes
hex_bytes_length [] = refl
hex_bytes_length (b ∷ s) = omega (arith, hex_bytes_length s)

-- the empty key, and any other
pub hex_key_none : (s : List ℕ) → length s ≡ 0 → hex_key s ≡ 45 ∷ []
unfolding hex_key
hex_key_none [] e = refl
hex_key_none (b ∷ s) e = absurd (omega arith)

pub hex_key_some : (s : List ℕ) → (length s ≡ 0 → ⊥) → hex_key s ≡ hex_bytes s
unfolding hex_key
hex_key_some [] h = absurd (h refl)
hex_key_some (b ∷ s) h = refl

-- The digits of the bytes from i on, written at 2 * i: the two of byte i, then those of the bytes after it; none at the end.
module _ (out key : List ℕ) (i : ℕ) where
  pub hex_more : i < length key → 2 * length key ≤ length out
      → paste (set (set out (2 * i) (hex_digit (get_or key i 0 / 16))) (2 * i + 1) (hex_digit (get_or key i 0 % 16)))
      (2 * (i + 1)) (hex_bytes (drop (i + 1) key)) (length (hex_bytes (drop (i + 1) key)))
      ≡ paste out (2 * i) (hex_bytes (drop i key)) (length (hex_bytes (drop i key)))
  unfolding hex_bytes
  hex_more h g = grind (arith, common_steps)

  pub hex_none : length key ≤ i → out ≡ paste out (2 * i) (hex_bytes (drop i key)) (length (hex_bytes (drop i key)))
  unfolding hex_bytes
  hex_none h = rw (drop_of_length-le key h) (paste-zero out (2 * i) [])
