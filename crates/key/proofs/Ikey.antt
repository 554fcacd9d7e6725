-- Laws of the ikey. `split` says what the first n bytes, as a number, tell of the byte order of two strings; `rank`
-- puts ikey and length into one number, so that comparing (ikey, length) is byte order by plain arithmetic. And
-- `be` and `digits` are inverse to one another.
use Rattle.std.specs.Prelude.{◌≡◌, ◌∷◌, ◌++◌, ◌+◌, ◌*◌, ◌/◌, ◌%◌, ◌^◌, ◌-◌, ◌≤◌, ◌<◌}
use Rattle.base.specs.Kit.{refl, ap, sym, ◌∙◌, List, [], ℕ, zero, suc, min, mul-le-mul_right, one-le-pow, pow-suc, pow-succ', mul-add-div_right, div-eq_of_lt, mod-eq_of_lt, arith, mod-mul, length, take, drop, get_or, replicate, take-append-drop, length-append, length-replicate, length-take-le, take_at, take_all, take-append_seam}
use Rattle.key.specs.Order.{order, byte_order}
use Rattle.std.specs.declared.cmp.Ordering.{Ordering}
use Rattle.key.specs.Ikey.{be, ikey_of, digits, ikey_bytes}
use Rattle.key.specs.Part.{padded}
use Rattle.key.proofs.Order.{Cmp, is_lt, is_eq, is_gt, cmp, order_less, order_greater, order_equal, Lex, nil-lt, head-lt, tail-lt, lex_cmp, lex_gt, cmp-refl, cmp_prefix}
use Rattle.key.proofs.Bytes.{Bytes, bytes_take}

pos : (n : ℕ) → 0 < 256 ^ n
pos n = one-le-pow n 256 (omega arith)

-- the number of n bytes fits in n bytes
pub be-lt : (n : ℕ) (s : List ℕ) → Bytes s → be n s < 256 ^ n
unfolding be
be-lt zero s b = omega arith
be-lt (suc n) [] b = omega (arith, be-lt n [] tt)
be-lt (suc n) (a ∷ s) b = omega (arith, be-lt n s b.1, mul-le-mul_right (256 ^ n) b.0)

-- the number looks at the first n bytes only
pub be_of-take : (n : ℕ) (s : List ℕ) → be n (take n s) ≡ be n s
unfolding be
be_of-take zero s = refl
be_of-take (suc n) [] = refl
be_of-take (suc n) (a ∷ s) = ap (λ (x : ℕ). a * 256 ^ n + x) (be_of-take n s)

pub be-take : (n : ℕ) (s t : List ℕ) → take n s ≡ take n t → be n s ≡ be n t
be-take n s t e = sym (be_of-take n s) ∙ ap (be n) e ∙ be_of-take n t

-- What the first n bytes, as a number, and the lengths tell of the order of two byte strings: all cases.
pub data Split (n : ℕ) (s t : List ℕ) : Type 0 where
  below : be n s < be n t → Lex s t → Split n s t
  above : be n t < be n s → Lex t s → Split n s t
  shorter : be n s ≡ be n t → length s < length t → length s ≤ n → Lex s t → Split n s t
  longer : be n s ≡ be n t → length t < length s → length t ≤ n → Lex t s → Split n s t
  same : s ≡ t → length s ≤ n → Split n s t
  deeper : take n s ≡ take n t → n < length s → n < length t → Split n s t

-- one more equal byte in front
more : (n a : ℕ) {s t : List ℕ} → Split n s t → Split (suc n) (a ∷ s) (a ∷ t)
unfolding be
more n a (below h l) = below (omega arith) (tail-lt refl l)
more n a (above h l) = above (omega arith) (tail-lt refl l)
more n a (shorter h k m l) = shorter (omega arith) (omega arith) (omega arith) (tail-lt refl l)
more n a (longer h k m l) = longer (omega arith) (omega arith) (omega arith) (tail-lt refl l)
more n a (same e m) = same (cc) (omega arith)
more n a (deeper e k m) = deeper (cc) (omega arith) (omega arith)

-- a smaller first byte settles it
first : (n : ℕ) {a b : ℕ} (s t : List ℕ) → Bytes s → a < b → be (suc n) (a ∷ s) < be (suc n) (b ∷ t)
unfolding be
first n s t bs h = omega (arith, be-lt n s bs, mul-le-mul_right (256 ^ n) h)

pub split : (n : ℕ) (s t : List ℕ) → Bytes s → Bytes t → Split n s t
unfolding be
split zero [] [] bs bt = same refl (omega arith)
split zero [] (b ∷ t) bs bt = shorter refl (omega arith) (omega arith) nil-lt
split zero (a ∷ s) [] bs bt = longer refl (omega arith) (omega arith) nil-lt
split zero (a ∷ s) (b ∷ t) bs bt = deeper refl (omega arith) (omega arith)
split (suc n) [] [] bs bt = same refl (omega arith)
split (suc n) [] (b ∷ t) bs bt = go (be (suc n) (b ∷ t)) refl
  where
    go : (x : ℕ) → be (suc n) (b ∷ t) ≡ x → Split (suc n) [] (b ∷ t)
    go zero e = shorter (sym e) (omega arith) (omega arith) nil-lt
    go (suc x) e = below (omega arith) nil-lt
split (suc n) (a ∷ s) [] bs bt = go (be (suc n) (a ∷ s)) refl
  where
    go : (x : ℕ) → be (suc n) (a ∷ s) ≡ x → Split (suc n) (a ∷ s) []
    go zero e = longer e (omega arith) (omega arith) nil-lt
    go (suc x) e = above (omega arith) nil-lt
split (suc n) (a ∷ s) (b ∷ t) bs bt = go (cmp a b) (split n s t bs.1 bt.1)
  where
    go : {o : Ordering} → Cmp a b o → Split n s t → Split (suc n) (a ∷ s) (b ∷ t)
    go (is_lt h) r = below (first n s t bs.1 h) (head-lt h)
    go (is_eq h) r = rw h (more n b r)
    go (is_gt h) r = above (first n t s bt.1 h) (head-lt h)

-- Where both have n bytes, comparing the numbers is comparing the bytes.
pub order-be : (n : ℕ) (s t : List ℕ) → Bytes s → Bytes t → n ≤ length s → n ≤ length t
    → order (be n s) (be n t) ≡ byte_order (take n s) (take n t)
order-be n s t bs bt h g =
    rw (← be_of-take n s, ← be_of-take n t) (go (split n (take n s) (take n t) (bytes_take n s bs) (bytes_take n t bt)))
  where
    go : Split n (take n s) (take n t) → order (be n (take n s)) (be n (take n t)) ≡ byte_order (take n s) (take n t)
    go (below e l) = order_less _ _ e ∙ sym (lex_cmp l)
    go (above e l) = order_greater _ _ e ∙ sym (lex_gt l)
    go (shorter e k m l) = absurd (omega (arith, length-take-le n s h, length-take-le n t g))
    go (longer e k m l) = absurd (omega (arith, length-take-le n s h, length-take-le n t g))
    go (same e m) = rw e (order_equal _ _ (omega arith) (omega arith) ∙ sym (cmp-refl (take n t)))
    go (deeper e k m) = absurd (omega (arith, length-take-le n s h))

-- The rank of a byte string in its layer: the ikey first, then the length, with 9 for all that go on past eight bytes.
-- A proof device, in no contract: one number, so that arithmetic does the lexicographic part.
unfoldable pub rank : List ℕ → ℕ
rank s = ikey_of s * 16 + min (length s) 9

-- Where the ranks differ they decide; where they agree, the two are one byte string, or both go on and the rests decide.
by_rank : {A : Type 0} (s t : List ℕ) → Bytes s → Bytes t → (rank s < rank t → Lex s t → A) → (rank t < rank s → A)
    → (s ≡ t → length s ≤ 8 → A) → (rank s ≡ rank t → take 8 s ≡ take 8 t → 8 < length s → A) → A
unfolding rank ikey_of
by_rank {A} s t bs bt lower higher equal both = go (split 8 s t bs bt)
  where
    go : Split 8 s t → A
    go (below e l) = lower (omega arith) l
    go (above e l) = higher (omega arith)
    go (shorter e k m l) = lower (omega arith) l
    go (longer e k m l) = higher (omega arith)
    go (same e m) = equal e m
    go (deeper e k m) = both (omega (arith, be-take 8 s t e)) e k

pub rank_lt : (s t : List ℕ) → Bytes s → Bytes t → rank s < rank t → Lex s t
rank_lt s t bs bt h =
    by_rank s t bs bt (λ g l. l) (λ g. absurd (omega arith)) (λ e m. absurd (omega (arith, ap rank e))) (λ g e k. absurd (omega arith))

pub rank-eq-short : (s t : List ℕ) → Bytes s → Bytes t → rank s ≡ rank t → length s ≤ 8 → s ≡ t
rank-eq-short s t bs bt h n =
    by_rank s t bs bt (λ g l. absurd (omega arith)) (λ g. absurd (omega arith)) (λ e m. e) (λ g e k. absurd (omega arith))

pub rank-eq-long : (s t : List ℕ) → Bytes s → Bytes t → rank s ≡ rank t → 8 < length s → byte_order s t ≡ byte_order (drop 8 s) (drop 8 t)
rank-eq-long s t bs bt h n =
    by_rank s t bs bt (λ g l. absurd (omega arith)) (λ g. absurd (omega arith)) (λ e m. absurd (omega arith))
    (λ g e k. cc (take-append-drop 8 s, take-append-drop 8 t, e, cmp_prefix (take 8 s) (drop 8 s) (drop 8 t)))

-- What lies below eight bytes of a layer has their ikey and goes on.
pub rank_below : (k t : List ℕ) → length k ≡ 8 → 0 < length t → rank (k ++ t) ≡ ikey_of k * 16 + 9
unfolding rank ikey_of
rank_below k t e h = omega (arith, length-append k t, be-take 8 (k ++ t) k (take_at k t 8 e ∙ sym (take_all 8 k (omega arith))))

pub rank_pos : (k : List ℕ) → 1 ≤ rank k → 0 < length k
unfolding rank ikey_of be
rank_pos [] h = omega arith
rank_pos (a ∷ k) h = omega arith

-- A number and its bytes.
pub digits-length : (n x : ℕ) → length (digits n x) ≡ n
unfolding digits
digits-length zero x = refl
digits-length (suc n) x = ap suc (digits-length n x)

be_low : (n x : ℕ) → be n (digits n x) ≡ x % 256 ^ n
unfolding be digits
be_low zero x = omega arith
be_low (suc n) x = rw (pow-succ' 256 n, mod-mul x {m = 256} (omega arith) (pos n), be_low n x)

pub be-digits : (n x : ℕ) → x < 256 ^ n → be n (digits n x) ≡ x
be-digits n x h = be_low n x ∙ mod-eq_of_lt h

-- the low n bytes do not see what stands above them
digits_high : (n a r : ℕ) → digits n (a * 256 ^ n + r) ≡ digits n r
unfolding digits
digits_high zero a r = refl
digits_high (suc n) a r =
    let e : a * 256 ^ suc n + r ≡ a * 256 * 256 ^ n + r = rw (pow-suc 256 n) (omega arith) in
    let f : (a * 256 + r / 256 ^ n) % 256 ≡ r / 256 ^ n % 256 = omega arith in
    rw (e, mul-add-div_right (pos n) (a * 256) r, f, digits_high n (a * 256) r)

-- the highest byte
digits_top : (a r p : ℕ) → a < 256 → r < p → (a * p + r) / p % 256 ≡ a
digits_top a r p h k = omega (arith, mul-add-div_right {m = p} (omega arith) a r, div-eq_of_lt k)

digits_self : (s : List ℕ) → Bytes s → digits (length s) (be (length s) s) ≡ s
unfolding be digits
digits_self [] b = refl
digits_self (a ∷ s) b =
    let n : ℕ = length s in
    rw (digits_top a (be n s) (256 ^ n) b.0 (be-lt n s b.1), digits_high n a (be n s), digits_self s b.1)

pub digits-be : (n : ℕ) (s : List ℕ) → Bytes s → length s ≡ n → digits n (be n s) ≡ s
digits-be n s b e = rw (← e) (digits_self s b)

-- zero bytes at the end may be left off
be-nil : (n : ℕ) → be n [] ≡ 0
unfolding be
be-nil zero = refl
be-nil (suc n) = refl

pub be-filled : (n m : ℕ) (s : List ℕ) → be n (s ++ replicate m 0) ≡ be n s
unfolding be
be-filled zero m s = refl
be-filled (suc n) zero [] = refl
be-filled (suc n) (suc m) [] = omega (arith, be-filled n m [], be-nil n)
be-filled (suc n) m (a ∷ s) = ap (λ (x : ℕ). a * 256 ^ n + x) (be-filled n m s)

pub be-zeros : (n m : ℕ) (d : List ℕ) → ((j : ℕ) → m ≤ j → get_or d j 0 ≡ 0) → be n (take m d) ≡ be n d
unfolding be
be-zeros zero m d z = refl
be-zeros (suc n) zero [] z = refl
be-zeros (suc n) (suc m) [] z = refl
be-zeros (suc n) zero (a ∷ d) z =
    omega (arith, ap (λ (y : ℕ). y * 256 ^ n) (z 0 (omega arith)), be-zeros n zero d (λ j h. z (suc j) (omega arith)), be-nil n)
be-zeros (suc n) (suc m) (a ∷ d) z = ap (λ (y : ℕ). a * 256 ^ n + y) (be-zeros n m d (λ j h. z (suc j) (omega arith)))

-- The eight bytes of an ikey, and the ikey of eight bytes.
pub ikey_bytes-length : (x : ℕ) → length (ikey_bytes x) ≡ 8
unfolding ikey_bytes
ikey_bytes-length x = digits-length 8 x

pub ikey_of-ikey_bytes : (x : ℕ) → x < 2 ^ 64 → ikey_of (ikey_bytes x) ≡ x
unfolding ikey_of ikey_bytes
ikey_of-ikey_bytes x h = be-digits 8 x h

pub ikey_bytes-ikey_of : (s : List ℕ) → Bytes s → length s ≡ 8 → ikey_bytes (ikey_of s) ≡ s
unfolding ikey_of ikey_bytes
ikey_bytes-ikey_of s b e = digits-be 8 s b e

-- A byte string in a buffer: 256 bytes, zero past the string, and the string's ikey.
pub padded-length : (s : List ℕ) → length s ≤ 256 → length (padded s) ≡ 256
unfolding padded
padded-length s h = omega (arith, length-append s (replicate (256 - length s) 0), length-replicate {A = ℕ} (256 - length s) 0)

pub padded-take : (s : List ℕ) → take (length s) (padded s) ≡ s
unfolding padded
padded-take s = take-append_seam s (replicate (256 - length s) 0)
