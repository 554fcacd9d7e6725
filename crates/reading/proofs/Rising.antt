-- The order of the keys: hex text has the order of the bytes it spells, so that a loop reads it off the texts; and keys that rise are
-- `Ascending`.
use Rattle.std.specs.Prelude.{◌≡◌, ◌&&◌, ◌∷◌, ◌/◌, ◌%◌, ◌≤◌, ◌<◌}
use Rattle.std.specs.Ordering.{is_lt}
use Rattle.base.specs.Kit.{refl, sym, ap, ◌∙◌, Bool, true, false, and-eq-true_iff, List, [], ℕ, zero, suc, arith, ltb, leb, length, ltb-true, ltb-false, leb-true, le-leb, lt-leb, leb-false}
use Rattle.base.proofs.Choice.{by_test}
use Rattle.key.specs.Order.{byte_order}
use Rattle.std.specs.declared.cmp.Ordering.{Ordering}
use Rattle.std.specs.declared.cmp.Ordering.TheVariants.{Less, Equal, Greater}
use Rattle.key.proofs.Order.{Lex, nil-lt, head-lt, tail-lt, lex_trans, CmpB, b_lt, b-eq, b_gt, cmpb, lex_cmp, lex_gt, cmp-refl, cmp_less}
use Rattle.layering.specs.Keys.{Pair}
use Rattle.layering.specs.Ascending.{All, Ascending}
use Rattle.layering.proofs.Row.{all_map}
use Rattle.sheet.specs.Sheet.{hex_digit, hex_bytes, hex_key}
use Rattle.sheet.proofs.Hex.{hex_bytes_length}
use Rattle.reading.specs.Read.{Got, none, got, next, station, stations}
use Rattle.reading.specs.Fault.{rise_above, keys_rise}
use Rattle.reading.specs.CodeViews.{follows, texts_rise, risen}
use Rattle.reading.proofs.Keys.{digit_low, digit_high, high_digit}

-- A DIGIT is above another where its number is.
digit_above : (a b : ℕ) → a < b → hex_digit a < hex_digit b
digit_above a b h =
    by_test (ltb a 10)
    (λ t.
    by_test (ltb b 10) (λ u. rw (digit_low a (ltb-true a 10 t), digit_low b (ltb-true b 10 u)) (omega arith))
    (λ v. rw (digit_low a (ltb-true a 10 t), digit_high b (ltb-false b 10 v)) (omega (arith, ltb-true a 10 t))))
    (λ f. rw (digit_high a (ltb-false a 10 f), digit_high b (omega (arith, ltb-false a 10 f))) (omega arith))

-- TEXTS OF KEYS STAND AS THE KEYS DO.
bytes_stand : {s t : List ℕ} → Lex s t → Lex (hex_bytes s) (hex_bytes t)
unfolding hex_bytes
bytes_stand nil-lt = nil-lt
bytes_stand (head-lt {a = a} {b = b} h) =
    by_test (ltb (a / 16) (b / 16)) (λ t. head-lt (digit_above (a / 16) (b / 16) (ltb-true (a / 16) (b / 16) t)))
    (λ f.
    let e : a / 16 ≡ b / 16 = omega (arith, ltb-false (a / 16) (b / 16) f) in
    tail-lt (ap hex_digit e) (head-lt (digit_above (a % 16) (b % 16) (omega arith))))
bytes_stand (tail-lt {a = a} {b = b} e h) =
    tail-lt (ap (λ (x : ℕ). hex_digit (x / 16)) e) (tail-lt (ap (λ (x : ℕ). hex_digit (x % 16)) e) (bytes_stand h))

keys_stand : (s t : List ℕ) → Lex s t → Lex (hex_key s) (hex_key t)
unfolding hex_key hex_bytes
keys_stand [] [] h = elim h [ ]
keys_stand (a ∷ s) [] h = elim h [ ]
keys_stand [] (b ∷ t) h = head-lt (high_digit (b / 16))
keys_stand (a ∷ s) (b ∷ t) h = bytes_stand h

text-order : (s t : List ℕ) → byte_order (hex_key s) (hex_key t) ≡ byte_order s t
text-order s t = go (byte_order s t) (cmpb s t)
  where
    go : (o : Ordering) → CmpB s t o → byte_order (hex_key s) (hex_key t) ≡ o
    go Less (b_lt k) = lex_cmp (keys_stand s t k)
    go Equal (b-eq e) = rw e (cmp-refl (hex_key t))
    go Greater (b_gt k) = lex_gt (keys_stand t s k)

-- a text of at most 512 bytes is that of a key of at most 256
text-bound : (k : List ℕ) → leb (length (hex_key k)) 512 ≡ leb (length k) 256
unfolding hex_key
text-bound [] = refl
text-bound (b ∷ k) =
    by_test (leb (length (b ∷ k)) 256)
    (λ t. le-leb (length (hex_bytes (b ∷ k))) 512 (omega (arith, hex_bytes_length (b ∷ k), leb-true (length (b ∷ k)) 256 t)) ∙ sym t)
    (λ f. lt-leb (length (hex_bytes (b ∷ k))) 512 (omega (arith, hex_bytes_length (b ∷ k), leb-false (length (b ∷ k)) 256 f)) ∙ sym f)

-- the text before the first key is empty, and a key's text is not
first-follows : (k : List ℕ) → is_lt (byte_order [] (hex_key k)) ≡ true
unfolding hex_key hex_bytes byte_order
first-follows [] = refl
first-follows (b ∷ k) = refl

texts_above : (j : List ℕ) (xs : List Pair) → texts_rise (hex_key j) xs ≡ rise_above j xs
unfolding texts_rise follows rise_above
texts_above j [] = refl
texts_above j (x ∷ xs) = rw (text-bound x.key, text-order j x.key, texts_above x.key xs)

pub texts_rise_lem : (xs : List Pair) → texts_rise [] xs ≡ keys_rise xs
unfolding texts_rise follows keys_rise
texts_rise_lem [] = refl
texts_rise_lem (x ∷ xs) = rw (text-bound x.key, first-follows x.key, texts_above x.key xs) (and_one (leb (length x.key) 256) (rise_above x.key xs))
  where
    and_one : (a b : Bool) → ((a && true) && b) ≡ (a && b)
    and_one true b = refl
    and_one false b = refl

-- STATIONS, one after the other.
regroup : (a b c : Bool) → (a && (b && c)) ≡ ((a && b) && c)
regroup true b c = refl
regroup false b c = refl

risen-next : (t : List ℕ) (ok : Bool) (x : Pair) (g : Got (List Pair))
    → risen t ok (next g (λ xs q. got (x ∷ xs) q)) ≡ risen (hex_key x.key) (ok && follows t (hex_key x.key)) g
unfolding risen next texts_rise
risen-next t ok x none = refl
risen-next t ok x (got xs q) = ap (λ (b : Bool). got b q) (regroup ok (follows t (hex_key x.key)) (texts_rise (hex_key x.key) xs))

module _ (n : ℕ) (s t : List ℕ) (ok : Bool) where
  pub risen-more : (x : Pair) (r : List ℕ) → station s ≡ got x r
      → risen t ok (stations (suc n) s) ≡ risen (hex_key x.key) (ok && follows t (hex_key x.key)) (stations n r)
  unfolding stations next
  risen-more x r h = rw h (risen-next t ok x (stations n r))

  pub risen_bad : station s ≡ none → risen t ok (stations (suc n) s) ≡ none
  unfolding stations next risen
  risen_bad h = rw h

pub risen_end : (n : ℕ) (s t : List ℕ) (ok : Bool) → n ≡ 0 → risen t ok (stations n s) ≡ got ok s
unfolding stations risen texts_rise
risen_end zero s t true e = refl
risen_end zero s t false e = refl
risen_end (suc n) s t ok e = absurd (omega arith)

-- KEYS THAT RISE ASCEND, each of at most 256 bytes.
is_lt_lem : (o : Ordering) → is_lt o ≡ true → o ≡ Less
is_lt_lem Less e = refl
is_lt_lem Equal e = let z : ◌≡◌ {A = Bool} false true = e in cc
is_lt_lem Greater e = let z : ◌≡◌ {A = Bool} false true = e in cc

abbrev Short : Pair → Type 0
Short x = length x.key ≤ 256

abbrev Above : List ℕ → Pair → Type 0
Above j x = byte_order j x.key ≡ Less

above_ascending : (j : List ℕ) (xs : List Pair) → rise_above j xs ≡ true → All (Above j) xs × Ascending xs × All Short xs
unfolding rise_above Ascending
above_ascending j [] e = (tt, tt, tt)
above_ascending j (x ∷ xs) e =
    let a = (and-eq-true_iff (leb (length x.key) 256 && is_lt (byte_order j x.key)) (rise_above x.key xs)).0 e in
    let b = (and-eq-true_iff (leb (length x.key) 256) (is_lt (byte_order j x.key))).0 a.0 in
    let rest = above_ascending x.key xs a.1 in
    let up : byte_order j x.key ≡ Less = is_lt_lem (byte_order j x.key) b.1 in (
      (up, all_map (Above x.key) (Above j) (λ z c. lex_cmp (lex_trans (cmp_less j x.key up) (cmp_less x.key z.key c))) xs rest.0),
      (rest.0, rest.1),
      (leb-true (length x.key) 256 b.0, rest.2),
    )

pub rise_ascending : (xs : List Pair) → keys_rise xs ≡ true → Ascending xs × All (λ (x : Pair). length x.key ≤ 256) xs
unfolding keys_rise Ascending
rise_ascending [] e = (tt, tt)
rise_ascending (x ∷ xs) e =
    let a = (and-eq-true_iff (leb (length x.key) 256) (rise_above x.key xs)).0 e in
    let rest = above_ascending x.key xs a.1 in
    ((rest.0, rest.1), (leb-true (length x.key) 256 a.0, rest.2))
