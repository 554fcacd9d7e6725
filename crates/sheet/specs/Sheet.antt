-- Sheet edition 1 (01, "Surveyed examples": "The first line has the edition and the trailer's key count; then lower-case hex key
-- (- for empty) and decimal value; last the walk's moves. Decimals have no leading zeros and stay below 2^64; each line ends in
-- one newline byte, and nothing follows the last").
use Rattle.std.specs.Prelude.{◌∷◌, ◌++◌, ◌+◌, ◌/◌, ◌%◌}
use Rattle.base.specs.Kit.{List, [], ℕ, zero, suc, ltb}
use Rattle.base.specs.Pick.{pick}
use Rattle.layering.specs.Keys.{Pair}

-- A number's decimal digits as ASCII bytes, at most n of them: "no leading zeros".
unfoldable pub decimal_in : ℕ → ℕ → List ℕ
decimal_in zero x = []
decimal_in (suc n) x = pick (ltb x 10) ((48 + x) ∷ []) (decimal_in n (x / 10) ++ ((48 + x % 10) ∷ []))

-- 2^64 has twenty digits.
unfoldable pub decimal : ℕ → List ℕ
decimal x = decimal_in 20 x

-- A hex digit in lower case, and a key: two digits for each byte, `-` for the empty key.
unfoldable pub hex_digit : ℕ → ℕ
hex_digit x = pick (ltb x 10) (48 + x) (87 + x)

unfoldable pub hex_bytes : List ℕ → List ℕ
hex_bytes [] = []
hex_bytes (b ∷ s) = hex_digit (b / 16) ∷ hex_digit (b % 16) ∷ hex_bytes s

unfoldable pub hex_key : List ℕ → List ℕ
hex_key [] = 45 ∷ []
hex_key (b ∷ s) = hex_bytes (b ∷ s)

-- "sheet 1 keys " and the key count.
abbrev pub first_line : ℕ → List ℕ
first_line count = (115 ∷ 104 ∷ 101 ∷ 101 ∷ 116 ∷ 32 ∷ 49 ∷ 32 ∷ 107 ∷ 101 ∷ 121 ∷ 115 ∷ 32 ∷ []) ++ decimal count ++ (10 ∷ [])

-- One pair: key, space, value.
unfoldable pub pair_line : Pair → List ℕ
pair_line x = hex_key x.key ++ (32 ∷ []) ++ decimal x.value ++ (10 ∷ [])

unfoldable pub pair_lines : List Pair → List ℕ
pair_lines [] = []
pair_lines (x ∷ xs) = pair_line x ++ pair_lines xs

-- "end " and the walk's moves.
abbrev pub last_line : ℕ → List ℕ
last_line moves = (101 ∷ 110 ∷ 100 ∷ 32 ∷ []) ++ decimal moves ++ (10 ∷ [])

-- THE SHEET of the pairs that a walk hands out, for an image whose trailer states `count` keys.
unfoldable pub sheet : ℕ → List Pair → ℕ → List ℕ
sheet count pairs moves = first_line count ++ pair_lines pairs ++ last_line moves

-- "A declined image prints only `refused n`."
abbrev pub refused : ℕ → List ℕ
refused n = (114 ∷ 101 ∷ 102 ∷ 117 ∷ 115 ∷ 101 ∷ 100 ∷ 32 ∷ []) ++ decimal n ++ (10 ∷ [])
