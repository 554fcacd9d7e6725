-- The readers' loops, a turn each, and what a reader of the rest of a slice says, by the byte that stands there.
use Rattle.std.specs.Prelude.{◌≡◌, ◌∷◌, ◌+◌, ◌*◌, ◌-◌, ◌^◌, ◌<◌, ◌≤◌, Option, None, Some}
use Rattle.std.specs.List.{starts_with}
use Rattle.std.proofs.lemmas.Option.{none-some, same_Some}
use Rattle.base.specs.Kit.{refl, sym, ap, ap₂, ◌∙◌, and-false, Bool, true, false, List, [], ℕ, add-one, arith, ltb, eqb, length, length-drop, get_or, drop, set, lt-ltb, le-ltb, ltb-true, leb, leb-true, leb-false, lt-leb, take, take-length, eqb-true, eqb-false, eq-eqb, ne_eqb, sets}
use Rattle.base.specs.Pick.{pick}
use Rattle.base.proofs.Choice.{pick_ind, by_test}
use Rattle.reading.specs.Read.{Got, none, got, digit, digits, number, nibble, hex_pair, hex_byte, key_bytes}
use Rattle.reading.specs.CodeViews.{first_digit, hex_digit_seen, word_at}
use Rattle.reading.proofs.Gets.{none-got, guard-got, got_same}
use Rattle.reading.proofs.Numbers.{digit-true, true-digit, false-digit}

-- the rest of a slice, as code takes it
pub rest_is : (s : List ℕ) (at : ℕ) → take (length s - at) (drop at s) ≡ drop at s
rest_is s at = rw (← length-drop at s) (take-length (drop at s))

low_digit : (b : ℕ) → b < 48 → digit b ≡ false
unfolding digit
low_digit b h = rw (lt-leb 48 b h)

not-digit : (b : ℕ) → (48 ≤ b → b ≤ 57 → ⊥) → digit b ≡ false
not-digit b h =
    by_test (leb 48 b)
    (λ t. by_test (leb b 57) (λ u. absurd (h (leb-true 48 b t) (leb-true b 57 u))) (λ v. false-digit b (leb-false b 57 v)))
    (λ f. low_digit b (leb-false 48 b f))

-- A DIGIT at the front of a text, and what stands behind it.
pub digit_end : (s : List ℕ) → length s < 1 → none ≡ first_digit s
unfolding first_digit
digit_end [] h = refl
digit_end (b ∷ s) h = absurd (omega arith)

module _ (s : List ℕ) (h : 1 ≤ length s) where
  pub digit_there : (d : ℕ) → 48 ≤ get_or s 0 0 → get_or s 0 0 ≤ 57 → d ≡ get_or s 0 0 - 48 → got d (take (length s - 1) (drop 1 s)) ≡ first_digit s
  unfolding first_digit pick
  digit_there d l u e = ap₂ got e (rest_is s 1) ∙ go s h l u
    where
      go : (s : List ℕ) → 1 ≤ length s → 48 ≤ get_or s 0 0 → get_or s 0 0 ≤ 57 → got (get_or s 0 0 - 48) (drop 1 s) ≡ first_digit s
      go [] h l u = absurd (omega arith)
      go (b ∷ s) h l u = rw (true-digit b l u)

  pub digit_other : (48 ≤ get_or s 0 0 → get_or s 0 0 ≤ 57 → ⊥) → none ≡ first_digit s
  unfolding first_digit pick
  digit_other n = go s h n
    where
      go : (s : List ℕ) → 1 ≤ length s → (48 ≤ get_or s 0 0 → get_or s 0 0 ≤ 57 → ⊥) → none ≡ first_digit s
      go [] h n = absurd (omega arith)
      go (b ∷ s) h n = rw (not-digit b n)

not_first : (b : ℕ) (s : List ℕ) → pick (digit b) (got (b - 48) s) none ≡ none → digit b ≡ false
not_first b s = pick_ind (λ (g : Got ℕ). g ≡ none → digit b ≡ false) (digit b) (λ t e. absurd (none-got (sym e))) (λ f e. f)

-- THE DIGITS of a decimal, and a whole one, by the digit at the front.
pub digits-stop : (x : ℕ) (s : List ℕ) → none ≡ first_digit s → got x s ≡ digits x s
unfolding digits first_digit pick
digits-stop x [] e = refl
digits-stop x (b ∷ s) e = rw (not_first b s (sym e))

pub number-stop : (s : List ℕ) → none ≡ first_digit s → none ≡ number s
unfolding number first_digit pick
number-stop [] e = refl
number-stop (b ∷ s) e = rw (not_first b s (sym e))

module _ (d : ℕ) (r : List ℕ) where
  pub digit_shorter : (s : List ℕ) → got d r ≡ first_digit s → length r < length s
  unfolding first_digit
  digit_shorter [] e = absurd (none-got (sym e))
  digit_shorter (b ∷ s) e = got_same (λ d r. length r < length (b ∷ s)) (guard-got (digit b) (got (b - 48) s) (sym e)).1 (omega arith)

  pub digits_over : (x : ℕ) (s : List ℕ) → got d r ≡ first_digit s → 2 ^ 64 ≤ 10 * x + d → none ≡ digits x s
  unfolding digits first_digit pick
  digits_over x [] e = absurd (none-got (sym e))
  digits_over x (b ∷ s) e =
      let g = guard-got (digit b) (got (b - 48) s) (sym e) in
      got_same (λ d r. 2 ^ 64 ≤ 10 * x + d → none ≡ digits x (b ∷ s)) g.1 (λ o. rw (g.0, le-ltb (10 * x + (b - 48)) (2 ^ 64) o))

  pub digits_more : (x v : ℕ) (s : List ℕ) → got d r ≡ first_digit s → v ≡ 10 * x + d → v < 2 ^ 64 → digits v r ≡ digits x s
  unfolding digits first_digit pick
  digits_more x v [] e k h = absurd (none-got (sym e))
  digits_more x v (b ∷ s) e k h =
      let g = guard-got (digit b) (got (b - 48) s) (sym e) in
      let l : 10 * x + d < 2 ^ 64 = omega arith in
      rw k (got_same (λ d r. 10 * x + d < 2 ^ 64 → digits (10 * x + d) r ≡ digits x (b ∷ s)) g.1 (λ o. rw (g.0, lt-ltb (10 * x + (b - 48)) (2 ^ 64) o)) l)

  pub number-zero : (s : List ℕ) → got d r ≡ first_digit s → d ≡ 0 → got d r ≡ number s
  unfolding number first_digit pick
  number-zero [] e = absurd (none-got (sym e))
  number-zero (b ∷ s) e =
      let g = guard-got (digit b) (got (b - 48) s) (sym e) in
      let l = digit-true b g.0 in
      got_same (λ d r. d ≡ 0 → got d r ≡ number (b ∷ s)) g.1 (λ z. rw (g.0, z, eq-eqb b 48 (omega arith)))

  pub number_more : (s : List ℕ) → got d r ≡ first_digit s → (d ≡ 0 → ⊥) → digits d r ≡ number s
  unfolding number first_digit pick
  number_more [] e = absurd (none-got (sym e))
  number_more (b ∷ s) e =
      let g = guard-got (digit b) (got (b - 48) s) (sym e) in
      let l = digit-true b g.0 in
      got_same (λ d r. (d ≡ 0 → ⊥) → digits d r ≡ number (b ∷ s)) g.1 (λ z. rw (g.0, ne_eqb b 48 (λ k. z (omega (arith, k)))))

-- A HEX DIGIT, by its number.
some_hex : (b n : ℕ) → hex_digit_seen b ≡ Some n → (ltb (nibble b) 16 ≡ true) × (nibble b ≡ n)
unfolding hex_digit_seen
some_hex b n =
    pick_ind (λ (o : Option ℕ). o ≡ Some n → (ltb (nibble b) 16 ≡ true) × (nibble b ≡ n)) (ltb (nibble b) 16)
    (λ t e. (t, same_Some (nibble b) n e)) (λ f e. absurd (none-some n e))

none_hex : (b : ℕ) → hex_digit_seen b ≡ None → ltb (nibble b) 16 ≡ false
unfolding hex_digit_seen
none_hex b =
    pick_ind (λ (o : Option ℕ). o ≡ None → ltb (nibble b) 16 ≡ false) (ltb (nibble b) 16)
    (λ t e. absurd (none-some (nibble b) (sym e))) (λ f e. f)

pub hex_small : (b n : ℕ) → Some n ≡ hex_digit_seen b → n < 16
hex_small b n e = let h = some_hex b n (sym e) in omega (arith, ltb-true (nibble b) 16 h.0, h.1)

-- A BYTE as two hex digits, at the front of a text.
pub hex-short : (s : List ℕ) → length s < 2 → none ≡ hex_byte s
unfolding hex_byte
hex-short [] h = refl
hex-short (b ∷ []) h = refl
hex-short (b ∷ c ∷ s) h = absurd (omega arith)

pub no_high : (s : List ℕ) → 2 ≤ length s → None ≡ hex_digit_seen (get_or s 0 0) → none ≡ hex_byte s
unfolding hex_byte hex_pair pick
no_high [] h e = absurd (omega arith)
no_high (b ∷ []) h e = absurd (omega arith)
no_high (b ∷ c ∷ s) h e = rw (none_hex b (sym e))

pub no_low : (s : List ℕ) → 2 ≤ length s → None ≡ hex_digit_seen (get_or s 1 0) → none ≡ hex_byte s
unfolding hex_byte hex_pair pick
no_low [] h e = absurd (omega arith)
no_low (b ∷ []) h e = absurd (omega arith)
no_low (b ∷ c ∷ s) h e = rw (none_hex c (sym e), and-false (ltb (nibble b) 16))

pub hex_both : (s : List ℕ) (n m : ℕ) → 2 ≤ length s → Some n ≡ hex_digit_seen (get_or s 0 0) → Some m ≡ hex_digit_seen (get_or s 1 0)
    → got (16 * n + m) (take (length s - 2) (drop 2 s)) ≡ hex_byte s
unfolding hex_byte hex_pair pick
hex_both [] n m h e f = absurd (omega arith)
hex_both (b ∷ []) n m h e f = absurd (omega arith)
hex_both (b ∷ c ∷ s) n m h e f =
    let g = some_hex b n (sym e) in
    let k = some_hex c m (sym f) in
    ap (got (16 * n + m)) (rest_is (b ∷ c ∷ s) 2) ∙ rw (g.0, k.0, g.1, k.1)

pub hex_shorter : (s : List ℕ) (b : ℕ) (r : List ℕ) → got b r ≡ hex_byte s → length r + 2 ≡ length s
unfolding hex_byte
hex_shorter [] b r e = absurd (none-got (sym e))
hex_shorter (h ∷ []) b r e = absurd (none-got (sym e))
hex_shorter (h ∷ l ∷ s) b r e =
    got_same (λ b r. length r + 2 ≡ length (h ∷ l ∷ s)) (guard-got (hex_pair h l) (got (16 * nibble h + nibble l) s) (sym e)).1 (omega arith)

-- THE BYTES OF A KEY: a turn takes one.
pub run_more : (s : List ℕ) (b : ℕ) (r : List ℕ) → got b r ≡ hex_byte s → key_bytes s ≡ record { key = b ∷ (key_bytes r).key; rest = (key_bytes r).rest }
unfolding hex_byte key_bytes pick
run_more [] b r e = absurd (none-got (sym e))
run_more (h ∷ []) b r e = absurd (none-got (sym e))
run_more (h ∷ l ∷ s) b r e =
    let g = guard-got (hex_pair h l) (got (16 * nibble h + nibble l) s) (sym e) in
    got_same (λ b r. key_bytes (h ∷ l ∷ s) ≡ record { key = b ∷ (key_bytes r).key; rest = (key_bytes r).rest }) g.1 (rw g.0)

not-got : (t : Bool) (b : ℕ) (s : List ℕ) → pick t (got b s) none ≡ none → t ≡ false
unfolding pick
not-got true b s e = absurd (none-got (sym e))
not-got false b s e = refl

pub run_none : (s : List ℕ) → none ≡ hex_byte s → key_bytes s ≡ record { key = []; rest = s }
unfolding hex_byte key_bytes pick
run_none [] e = refl
run_none (h ∷ []) e = refl
run_none (h ∷ l ∷ s) e = rw (not-got (hex_pair h l) (16 * nibble h + nibble l) s (sym e))

-- one byte stored, those behind it after it
pub stored_more : (s buf buf' : List ℕ) (n b : ℕ) (r all : List ℕ) → got b r ≡ hex_byte s → buf' ≡ set buf n b
    → sets buf n (key_bytes s).key ≡ all → sets buf' (n + 1) (key_bytes r).key ≡ all
stored_more s buf buf' n b r all h k g =
    let f : sets buf n (b ∷ (key_bytes r).key) ≡ all = rw (run_more s b r h) at g in
    rw (k, add-one n) f

-- A WORD at the front of a text, as the library has it.
pub word_is : (w s : List ℕ) → starts_with eqb s w ≡ word_at w s
unfolding word_at pick
word_is [] s = refl
word_is (x ∷ w) [] = refl
word_is (x ∷ w) (b ∷ s) =
    by_test (eqb b x)
    (λ t. rw (t, eq-eqb x b (sym (eqb-true b x t))) (word_is w s))
    (λ f. rw (f, ne_eqb x b (λ e. eqb-false b x f (sym e))))

-- What the readers' proofs rest on.
pub ruleset digit_turns = (digits-stop, digits_over, digits_more, digit_shorter)

pub ruleset numbers = (number-stop, number-zero, number_more)

pub ruleset hex_turns = (hex-short, no_high, no_low, hex_both, hex_small)
