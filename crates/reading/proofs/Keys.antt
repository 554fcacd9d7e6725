-- Keys: what is read has the text it was read from, and every key is read where it stands.
use Rattle.std.specs.Prelude.{◌≡◌, ◌&&◌, ◌∷◌, ◌++◌, ◌+◌, ◌*◌, ◌-◌, ◌/◌, ◌%◌, ◌<◌, ◌≤◌}
use Rattle.base.specs.Kit.{refl, ap, ap₂, sym, ◌∙◌, true, and-eq-true_iff, List, [], ℕ, zero, suc, arith, ltb, leb, eqb, length, get_or, ltb-true, ltb-false, leb-true, eqb-true, lt-ltb, le-ltb, le-leb, ne_eqb}
use Rattle.base.specs.Pick.{pick}
use Rattle.base.proofs.Choice.{pick_ind, by_test}
use Rattle.sheet.specs.Sheet.{hex_digit, hex_bytes, hex_key}
use Rattle.sheet.proofs.Hex.{hex_key_some}
use Rattle.reading.specs.Read.{got, digit, nibble, hex_pair, Taken, key_bytes, some_key, read_key}
use Rattle.reading.proofs.Gets.{none-got, cases-got}
use Rattle.reading.proofs.Numbers.{digit-true, true-digit, false-digit}

abbrev Bytes : List ℕ → Type 0
Bytes k = (i : ℕ) → get_or k i 0 < 256

-- HEX DIGITS: a byte that is one is the digit of its nibble, and the nibble of a digit is the number.
pub digit_low : (x : ℕ) → x < 10 → hex_digit x ≡ 48 + x
unfolding hex_digit pick
digit_low x h = rw (lt-ltb x 10 h)

pub digit_high : (x : ℕ) → 10 ≤ x → hex_digit x ≡ 87 + x
unfolding hex_digit pick
digit_high x h = rw (le-ltb x 10 h)

nibble-digit : (b : ℕ) → nibble b < 16 → hex_digit (nibble b) ≡ b
unfolding nibble
nibble-digit b =
    pick_ind (λ n. n < 16 → hex_digit n ≡ b) (digit b)
    (λ t h. let d = digit-true b t in digit_low (b - 48) (omega arith) ∙ omega arith)
    (λ f. pick_ind (λ n. n < 16 → hex_digit n ≡ b) (leb 97 b && leb b 102)
    (λ t h.
    let w = (and-eq-true_iff (leb 97 b) (leb b 102)).0 t in
    let l = leb-true 97 b w.0 in
    digit_high (b - 87) (omega arith) ∙ omega arith)
    (λ g h. absurd (omega arith)))

digit-nibble : (x : ℕ) → x < 16 → nibble (hex_digit x) ≡ x
unfolding nibble pick
digit-nibble x h =
    by_test (ltb x 10)
    (λ t. let l = ltb-true x 10 t in rw (digit_low x l, true-digit (48 + x) (omega arith) (omega arith)) (omega arith))
    (λ f.
    let l = ltb-false x 10 f in
    rw (digit_high x l, false-digit (87 + x) (omega arith), le-leb 97 (87 + x) (omega arith), le-leb (87 + x) 102 (omega arith)) (omega arith))

-- TWO DIGITS are a byte's, and a byte's two digits are read as it.
module _ (h l : ℕ) (e : hex_pair h l ≡ true) where
  parts : (nibble h < 16) × (nibble l < 16)
  unfolding hex_pair
  parts =
      let t = (and-eq-true_iff (ltb (nibble h) 16) (ltb (nibble l) 16)).0 e in
      (ltb-true (nibble h) 16 t.0, ltb-true (nibble l) 16 t.1)

  pair_byte : 16 * nibble h + nibble l < 256
  pair_byte = omega (arith, parts.0, parts.1)

  pair_high : h ≡ hex_digit ((16 * nibble h + nibble l) / 16)
  pair_high = sym (nibble-digit h parts.0) ∙ ap hex_digit (omega (arith, parts.0, parts.1))

  pair_low : l ≡ hex_digit ((16 * nibble h + nibble l) % 16)
  pair_low = sym (nibble-digit l parts.1) ∙ ap hex_digit (omega (arith, parts.0, parts.1))

module _ (b : ℕ) (h : b < 256) where
  byte_pair : hex_pair (hex_digit (b / 16)) (hex_digit (b % 16)) ≡ true
  unfolding hex_pair
  byte_pair =
      rw (digit-nibble (b / 16) (omega arith), digit-nibble (b % 16) (omega arith), lt-ltb (b / 16) 16 (omega arith), lt-ltb (b % 16) 16 (omega arith))

  byte-value : 16 * nibble (hex_digit (b / 16)) + nibble (hex_digit (b % 16)) ≡ b
  byte-value = rw (digit-nibble (b / 16) (omega arith), digit-nibble (b % 16) (omega arith)) (omega arith)

-- THE BYTES OF A KEY.
bytes-none : Bytes []
bytes-none i = omega arith

bytes-more : (b : ℕ) (k : List ℕ) → b < 256 → Bytes k → Bytes (b ∷ k)
bytes-more b k h g zero = h
bytes-more b k h g (suc i) = g i

abbrev Spelt : List ℕ → Taken → Type 0
Spelt s t = (s ≡ hex_bytes t.key ++ t.rest) × Bytes t.key

key_bytes-text : (s : List ℕ) → Spelt s (key_bytes s)
unfolding key_bytes hex_bytes
key_bytes-text [] = (refl, bytes-none)
key_bytes-text (h ∷ []) = (refl, bytes-none)
key_bytes-text (h ∷ l ∷ s) =
    let k = key_bytes-text s in
    pick_ind (Spelt (h ∷ l ∷ s)) (hex_pair h l)
    (λ t. (
      ap₂ (λ (a : ℕ) (q : List ℕ). a ∷ q) (pair_high h l t) (ap₂ (λ (a : ℕ) (q : List ℕ). a ∷ q) (pair_low h l t) k.0),
      bytes-more (16 * nibble h + nibble l) (key_bytes s).key (pair_byte h l t) k.1,
    ))
    (λ f. (refl, bytes-none))

-- a space is no digit
space_no-digit : nibble 32 ≡ 16
unfolding nibble digit pick
space_no-digit = refl

at_space : (t : List ℕ) → key_bytes (32 ∷ t) ≡ record { key = []; rest = 32 ∷ t }
unfolding key_bytes hex_pair pick
at_space [] = refl
at_space (b ∷ t) = rw space_no-digit

key_bytes_of : (k t : List ℕ) → Bytes k → key_bytes (hex_bytes k ++ (32 ∷ t)) ≡ record { key = k; rest = 32 ∷ t }
unfolding key_bytes hex_bytes pick
key_bytes_of [] t h = at_space t
key_bytes_of (b ∷ k) t h =
    rw (byte_pair b (h 0), byte-value b (h 0), key_bytes_of k t (λ i. h (suc i)))

-- A KEY.
some-got : {k r : List ℕ} (j s : List ℕ) → some_key j s ≡ got k r → (j ≡ k) × (s ≡ r) × (length j ≡ 0 → ⊥)
unfolding some_key
some-got [] s e = absurd (none-got e)
some-got {k} {r} (b ∷ j) s e =
    let same : got (b ∷ j) s ≡ got k r = e in
    let n : b ∷ j ≡ k = cc in
    let m : s ≡ r = cc in
    (n, m, λ z. omega arith)

pub read_key-text : (s : List ℕ) {k r : List ℕ} → read_key s ≡ got k r → (s ≡ hex_key k ++ r) × ((i : ℕ) → get_or k i 0 < 256)
unfolding read_key hex_key
read_key-text [] g = absurd (none-got g)
read_key-text (b ∷ s) {k} {r} g =
    cases-got (eqb b 45) _ _ g
    (λ d w.
    let same : got [] s ≡ got k r = w in
    let n : k ≡ [] = cc in
    let m : s ≡ r = cc in
    (rw n (ap₂ (λ (x : ℕ) (l : List ℕ). x ∷ l) (eqb-true b 45 d) m), rw n bytes-none))
    (λ d w.
    let v = some-got (key_bytes (b ∷ s)).key (key_bytes (b ∷ s)).rest w in
    let t = key_bytes-text (b ∷ s) in (
      t.0 ∙ ap₂ (λ (j q : List ℕ). j ++ q) (sym (hex_key_some (key_bytes (b ∷ s)).key v.2) ∙ ap hex_key v.0) v.1,
      rw v.0 at t.1,
    ))

pub high_digit : (x : ℕ) → 45 < hex_digit x
high_digit x =
    by_test (ltb x 10) (λ t. rw (digit_low x (ltb-true x 10 t)) (omega arith)) (λ f. rw (digit_high x (ltb-false x 10 f)) (omega arith))

pub read_key_of : (k t : List ℕ) → ((i : ℕ) → get_or k i 0 < 256) → read_key (hex_key k ++ (32 ∷ t)) ≡ got k (32 ∷ t)
unfolding read_key hex_key hex_bytes some_key pick
read_key_of [] t h = refl
read_key_of (b ∷ k) t h =
    let e : key_bytes (hex_digit (b / 16) ∷ hex_digit (b % 16) ∷ (hex_bytes k ++ (32 ∷ t))) ≡ record { key = b ∷ k; rest = 32 ∷ t } =
    key_bytes_of (b ∷ k) t h in
    let f = high_digit (b / 16) in
    rw (ne_eqb (hex_digit (b / 16)) 45 (omega arith), e)
