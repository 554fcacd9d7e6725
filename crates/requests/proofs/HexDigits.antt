-- Bytes in hex, a piece at a time: the front of a space has a piece's digits, which are text, and they stand before those of what follows.
use Rattle.std.specs.Prelude.{◌≡◌, ◌∷◌, ◌++◌, ◌+◌, ◌*◌, ◌/◌, ◌%◌, ◌<◌}
use Rattle.std.specs.Str.{IsAscii, IsUtf8}
use Rattle.std.proofs.lemmas.Str.{IsUtf8-from_ascii}
use Rattle.std.proofs.lemmas.Str.Ascii.{IsAscii-nil, IsAscii-cons}
use Rattle.base.specs.Kit.{refl, sym, ap, Bool, true, false, List, [], ℕ, suc, arith, ltb, length, get_or, take, take-length, paste, take-paste, le_refl}
use Rattle.base.specs.Pick.{pick}
use Rattle.sheet.specs.Sheet.{hex_digit, hex_bytes}
use Rattle.sheet.proofs.Hex.{hex_bytes_length}

pick_below : (t : Bool) (x y n : ℕ) → x < n → y < n → pick t x y < n
unfolding pick
pick_below true x y n h g = h
pick_below false x y n h g = g

digit_ascii : (x : ℕ) → x < 16 → hex_digit x < 128
unfolding hex_digit
digit_ascii x h = pick_below (ltb x 10) (48 + x) (87 + x) 128 (omega arith) (omega arith)

hex_ascii : (s : List ℕ) → ((i : ℕ) → get_or s i 0 < 256) → IsAscii (hex_bytes s)
unfolding hex_bytes
hex_ascii [] h = IsAscii-nil
hex_ascii (b ∷ s) h =
    let small : b < 256 = h 0 in
    let low = IsAscii-cons (hex_digit (b % 16)) (hex_bytes s) (digit_ascii (b % 16) (omega arith)) (hex_ascii s (λ i. h (suc i))) in
    IsAscii-cons (hex_digit (b / 16)) (hex_digit (b % 16) ∷ hex_bytes s) (digit_ascii (b / 16) (omega arith)) low

-- the front of a space e, which was d, with the digits of s
module _ (s d e : List ℕ) (n : ℕ) (put : e ≡ paste d 0 (hex_bytes s) (length (hex_bytes s))) (two : n ≡ 2 * length s) where
  pub front_is : take n e ≡ hex_bytes s
  front_is =
      let all : n ≡ 0 + length (hex_bytes s) = omega (arith, hex_bytes_length s) in
      rw (put, all, take-paste d 0 (hex_bytes s) (length (hex_bytes s)) (omega arith) (le_refl (length (hex_bytes s)))) (take-length (hex_bytes s))

  pub front_text : ((i : ℕ) → get_or s i 0 < 256) → IsUtf8 (take n e)
  front_text h = rw front_is (IsUtf8-from_ascii (hex_bytes s) (hex_ascii s h))

pub hex_bytes_nil : hex_bytes [] ≡ []
unfolding hex_bytes
hex_bytes_nil = refl

hex_append : (s t : List ℕ) → hex_bytes (s ++ t) ≡ hex_bytes s ++ hex_bytes t
unfolding hex_bytes
hex_append [] t = refl
hex_append (b ∷ s) t = ap (λ (l : List ℕ). hex_digit (b / 16) ∷ hex_digit (b % 16) ∷ l) (hex_append s t)

-- a piece's digits, and those of the rest
pub hex_piece : (all piece rest digits : List ℕ) → all ≡ piece ++ rest → digits ≡ hex_bytes piece → digits ++ hex_bytes rest ≡ hex_bytes all
hex_piece all piece rest digits parts shown = rw (shown, parts) (sym (hex_append piece rest))
