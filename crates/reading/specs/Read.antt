-- A SHEET READ FROM ITS TEXT (02 [2]: "Read sheet edition 1"). It is the inverse of `text` (proofs/Sheets.antt): what is read has exactly the
-- text it was read from, and every text of a sheet is read as that sheet.
use Rattle.std.specs.Prelude.{◌&&◌, ◌∷◌, ◌+◌, ◌*◌, ◌-◌, ◌^◌}
use Rattle.base.specs.Kit.{Bool, List, [], ℕ, zero, suc, ltb, leb, eqb}
use Rattle.base.specs.Pick.{pick}
use Rattle.layering.specs.Keys.{Pair}
use Rattle.reading.specs.Form.{Sheet}

-- What stands at the front of a text: nothing of the form asked for, or a thing and the text behind it.
pub data Got (A : Type 0) : Type 0 where
  none : Got A
  got : A → List ℕ → Got A

-- One thing after another, and a thing after a word that stands there byte for byte.
unfoldable pub next : {A B : Type 0} → Got A → (A → List ℕ → Got B) → Got B
next none f = none
next (got a s) f = f a s

unfoldable pub after : {A : Type 0} → List ℕ → List ℕ → (List ℕ → Got A) → Got A
after [] s f = f s
after (w ∷ ws) [] f = none
after (w ∷ ws) (b ∷ s) f = pick (eqb b w) (after ws s f) none

-- A decimal: "no leading zeros and stay below 2^64". A first 0 is all of it; else digits are taken while they stand there.
unfoldable pub digit : ℕ → Bool
digit b = leb 48 b && leb b 57

unfoldable pub digits : ℕ → List ℕ → Got ℕ
digits x [] = got x []
digits x (b ∷ s) = pick (digit b) (pick (ltb (10 * x + (b - 48)) (2 ^ 64)) (digits (10 * x + (b - 48)) s) none) (got x (b ∷ s))

unfoldable pub number : List ℕ → Got ℕ
number [] = none
number (b ∷ s) = pick (digit b) (pick (eqb b 48) (got 0 s) (digits (b - 48) s)) none

-- A word, a decimal, and the line's end: "each line ends in one newline byte". Every line of a sheet ends so.
unfoldable pub word_number : List ℕ → List ℕ → Got ℕ
word_number w s = after w s (λ s₁. next (number s₁) (λ n s₂. after (10 ∷ []) s₂ (λ s₃. got n s₃)))

-- A byte as two lower-case hex digits; 16 stands for a byte that is no such digit.
unfoldable pub nibble : ℕ → ℕ
nibble b = pick (digit b) (b - 48) (pick (leb 97 b && leb b 102) (b - 87) 16)

unfoldable pub hex_pair : ℕ → ℕ → Bool
hex_pair h l = ltb (nibble h) 16 && ltb (nibble l) 16

unfoldable pub hex_byte : List ℕ → Got ℕ
hex_byte [] = none
hex_byte (h ∷ []) = none
hex_byte (h ∷ l ∷ s) = pick (hex_pair h l) (got (16 * nibble h + nibble l) s) none

-- The bytes of a key while they stand there, and the text behind them.
pub record Taken : Type 0 where
  pub key : List ℕ
  pub rest : List ℕ

unfoldable pub key_bytes : List ℕ → Taken
key_bytes [] = record { key = []; rest = [] }
key_bytes (h ∷ []) = record { key = []; rest = h ∷ [] }
key_bytes (h ∷ l ∷ s) =
    pick (hex_pair h l) (record { key = (16 * nibble h + nibble l) ∷ (key_bytes s).key; rest = (key_bytes s).rest })
    (record { key = []; rest = h ∷ l ∷ s })

-- A key: "lower-case hex key (- for empty)".
unfoldable pub some_key : List ℕ → List ℕ → Got (List ℕ)
some_key [] s = none
some_key (b ∷ k) s = got (b ∷ k) s

unfoldable pub read_key : List ℕ → Got (List ℕ)
read_key [] = none
read_key (b ∷ s) = pick (eqb b 45) (got [] s) (some_key (key_bytes (b ∷ s)).key (key_bytes (b ∷ s)).rest)

-- A station's line: key, space, value.
unfoldable pub station : List ℕ → Got Pair
station s = next (read_key s) (λ k s₁. next (word_number (32 ∷ []) s₁) (λ v s₂. got (record { key = k; value = v }) s₂))

-- As many station lines as the first line says: a count that is wrong leaves a line that is not in the form.
unfoldable pub stations : ℕ → List ℕ → Got (List Pair)
stations zero s = got [] s
stations (suc n) s = next (station s) (λ x r. next (stations n r) (λ xs q. got (x ∷ xs) q))

-- The first line: "sheet 1 keys " and the key count.
unfoldable pub first_word : List ℕ
first_word = 115 ∷ 104 ∷ 101 ∷ 101 ∷ 116 ∷ 32 ∷ 49 ∷ 32 ∷ 107 ∷ 101 ∷ 121 ∷ 115 ∷ 32 ∷ []

unfoldable pub read_head : List ℕ → Got ℕ
read_head s = word_number first_word s

-- The last: "end " and the figure, and "nothing follows the last".
unfoldable pub end_word : List ℕ
end_word = 101 ∷ 110 ∷ 100 ∷ 32 ∷ []

unfoldable pub nothing_behind : ℕ → List ℕ → Got ℕ
nothing_behind m [] = got m []
nothing_behind m (b ∷ s) = none

unfoldable pub read_end : List ℕ → Got ℕ
read_end s = next (word_number end_word s) nothing_behind

-- What follows the first line, whose count is n.
unfoldable pub body : ℕ → List ℕ → Got Sheet
body n s = next (stations n s) (λ xs r. next (read_end r) (λ m q. got (record { pairs = xs; figure = m }) q))
