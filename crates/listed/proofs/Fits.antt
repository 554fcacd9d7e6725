-- Every line of a sheet fits into the 534 bytes that it is written into, and has at least one.
use Rattle.std.specs.Prelude.{◌≡◌, ◌∷◌, ◌≤◌, ◌<◌}
use Rattle.base.specs.Kit.{sym, ap, ◌∙◌, List, [], ℕ, le_refl, zero-add, arith, length, take, length-append, length-replicate, take-length, paste, take-paste, le-leb}
use Rattle.base.specs.Pick.{pick}
use Rattle.layering.specs.Keys.{Pair}
use Rattle.sheet.specs.Sheet.{hex_key, first_line, pair_line, last_line, refused}
use Rattle.sheet.specs.Written.{written_len, written_out}
use Rattle.sheet.proofs.Decimal.{decimal_length}
use Rattle.sheet.proofs.Hex.{hex_bytes_length}
use Rattle.listed.specs.CodeLines.{blank}

-- A text that fits.
pub record Fits (text : List ℕ) : Type 0 where
  pub some : 0 < length text
  pub room : length text ≤ 534

blank-length : length blank ≡ 534
unfolding blank
blank-length = length-replicate {A = ℕ} 534 0

-- what is written of it
module _ (text : List ℕ) (f : Fits text) where
  pub written-len : written_len text blank ≡ length text
  unfolding written_len pick
  written-len = rw (le-leb (length text) (length blank) (omega (arith, blank-length, f.room)))

  pub written-text : take (written_len text blank) (written_out text blank) ≡ text
  unfolding written_len written_out pick
  written-text =
      let h : length text ≤ length blank = omega (arith, blank-length, f.room) in
      rw (le-leb (length text) (length blank) h)
      (ap (λ (n : ℕ). take n (paste blank 0 text (length text))) (sym (zero-add (length text)))
      ∙ take-paste blank 0 text (length text) (omega arith) (le_refl (length text)) ∙ take-length text)

-- the lines
hex-length : (key : List ℕ) → length key ≤ 256 → length (hex_key key) ≤ 512
unfolding hex_key
hex-length [] h = omega arith
hex-length (b ∷ s) h = omega (arith, hex_bytes_length (b ∷ s))

pub first_fits : (n : ℕ) → Fits (first_line n)
first_fits n = record {
  some = omega arith;
  room = simp length-append (omega (arith, decimal_length n));
}

pub last_fits : (n : ℕ) → Fits (last_line n)
last_fits n = record {
  some = omega arith;
  room = simp length-append (omega (arith, decimal_length n));
}

pub refused-fits : (n : ℕ) → Fits (refused n)
refused-fits n = record {
  some = omega arith;
  room = simp length-append (omega (arith, decimal_length n));
}

pub pair_fits : (x : Pair) → length x.key ≤ 256 → Fits (pair_line x)
unfolding pair_line
pair_fits x h = record {
  some = simp length-append (omega arith);
  room = simp length-append (omega (arith, decimal_length x.value, hex-length x.key h));
}
