-- Laws of a comparison by pieces: what one piece decides, and what is left where it decides nothing.
use Rattle.std.specs.Prelude.{◌⊎◌, ◌≡◌, ◌∷◌, ◌++◌, ◌+◌, ◌-◌, ◌*◌, ◌/◌, ◌%◌, ◌≤◌, ◌<◌}
use Rattle.base.specs.Kit.{inl, inr, refl, sym, ◌∙◌, ap, ap₂, List, [], ℕ, zero, suc, min, add-zero, zero-add, one-mul, sub-zero, append-nil, mul-zero, mul-suc, add-one, arith, length, get_or, take, drop, drop-cons, drop-drop, drop_of_length-le, length-drop, length-replicate, replicate, take_all}
use Rattle.std.proofs.lemmas.List.{drop_more}
use Rattle.base.proofs.Count.{left-more}
use Rattle.key.specs.Order.{order, then, byte_order}
use Rattle.key.specs.Comparisons.{widths, if_equal, through, compared_by, compared}
use Rattle.key.specs.Part.{part}
use Rattle.key.specs.Ikey.{be}
use Rattle.key.specs.declared.Compared.{Compared}
use Rattle.std.specs.declared.cmp.Ordering.{Ordering}
use Rattle.std.specs.declared.cmp.Ordering.TheVariants.{Less, Equal, Greater}
use Rattle.key.proofs.Order.{Cmp, is_lt, is_eq, is_gt, cmp, order_equal}
use Rattle.key.proofs.Bytes.{Bytes, bytes_drop}
use Rattle.key.proofs.Ikey.{order-be}

then_assoc : (o p q : Ordering) → then o (then p q) ≡ then (then o p) q
unfolding then
then_assoc Less p q = refl
then_assoc Equal p q = refl
then_assoc Greater p q = refl

then_equal : (o : Ordering) → then o Equal ≡ o
unfolding then
then_equal Less = refl
then_equal Equal = refl
then_equal Greater = refl

-- Byte order of two strings is that of their fronts, and where these agree that of what is left.
front-then-rest : (w : ℕ) (s t : List ℕ) → w ≤ length s → w ≤ length t
    → then (byte_order (take w s) (take w t)) (byte_order (drop w s) (drop w t)) ≡ byte_order s t
unfolding byte_order then
front-then-rest zero s t h g = refl
front-then-rest (suc w) [] t h g = absurd (omega arith)
front-then-rest (suc w) (a ∷ s) [] h g = absurd (omega arith)
front-then-rest (suc w) (a ∷ s) (b ∷ t) h g =
    sym (then_assoc (order a b) (byte_order (take w s) (take w t)) (byte_order (drop w s) (drop w t)))
    ∙ ap (then (order a b)) (front-then-rest w s t (omega arith) (omega arith))

-- What is left from `at` on, after so many comparisons.
abbrev pub After : List ℕ → List ℕ → ℕ → ℕ → List ℕ → Compared
After a b at made ws =
    record { order = byte_order (drop at a) (drop at b); comparisons = made + through ws (drop at a) (drop at b) }

-- A TURN of a loop over pieces, whose answer is to be r: the next pieces are compared as the numbers x and y.
module _ (a b : List ℕ) (at made w : ℕ) (ws : List ℕ) (r : Compared) (left : After a b at made (w ∷ ws) ≡ r)
    (h : at + w ≤ length a) (g : at + w ≤ length b) (x y : ℕ) (e : order x y ≡ byte_order (part a at w) (part b at w)) where
  whole : then (byte_order (part a at w) (part b at w)) (byte_order (drop w (drop at a)) (drop w (drop at b))) ≡ byte_order (drop at a) (drop at b)
  unfolding part
  whole = front-then-rest w (drop at a) (drop at b) (omega (arith, length-drop at a)) (omega (arith, length-drop at b))

  -- they differ: that is the answer, and this comparison the last
  differ : (x ≡ y → ⊥) → record { order = order x y; comparisons = made + 1 } ≡ r
  unfolding through if_equal then part
  differ n = go (cmp x y) e ∙ left
    where
      go : {o : Ordering} → Cmp x y o → o ≡ byte_order (part a at w) (part b at w)
          → record { order = o; comparisons = made + 1 } ≡ After a b at made (w ∷ ws)
      go (is_lt h) f = rw (← whole, ← f)
      go (is_eq h) f = absurd (n h)
      go (is_gt h) f = rw (← whole, ← f)

  -- they agree: the loop goes on behind them
  agree : x ≡ y → After a b (at + w) (made + 1) ws ≡ r
  unfolding through if_equal then part
  agree n =
      let f : Equal ≡ byte_order (part a at w) (part b at w) = sym (order_equal x y (omega arith) (omega arith)) ∙ e in
      let k : made + 1 + through ws (drop (at + w) a) (drop (at + w) b) ≡ made + suc (through ws (drop (at + w) a) (drop (at + w) b)) = omega arith in
      rw (k, ← drop-drop w at a, ← drop-drop w at b) (rw (← whole, ← f) at left)

-- No more comparisons than pieces.
through_most : (ws s t : List ℕ) → through ws s t ≤ length ws
unfolding through if_equal
through_most [] s t = omega arith
through_most (w ∷ ws) s t = go (byte_order (take w s) (take w t)) (through_most ws (drop w s) (drop w t))
  where
    go : {n : ℕ} (o : Ordering) → n ≤ length ws → suc (if_equal o n) ≤ suc (length ws)
    go Less h = omega arith
    go Equal h = omega arith
    go Greater h = omega arith

-- Where the shorter one ends, the lengths decide.
by_length : (a b : List ℕ) (m : ℕ) → m ≡ min (length a) (length b) → byte_order (drop m a) (drop m b) ≡ order (length a) (length b)
unfolding byte_order
by_length a b m e = go (cmp (length a) (length b))
  where
    go : {o : Ordering} → Cmp (length a) (length b) o → byte_order (drop m a) (drop m b) ≡ o
    go (is_lt h) = rw (drop_of_length-le a {i = m} (omega arith), drop-cons b m 0 (omega arith))
    go (is_eq h) = rw (drop_of_length-le a {i = m} (omega arith), drop_of_length-le b {i = m} (omega arith))
    go (is_gt h) = rw (drop-cons a m 0 (omega arith), drop_of_length-le b {i = m} (omega arith))

-- What is left of a string, as a part of it.
pub part-rest : (s : List ℕ) (at : ℕ) → part s at (length s - at) ≡ drop at s
unfolding part
part-rest s at = take_all (length s - at) (drop at s) (omega (arith, length-drop at s))

-- A LOOP over n pieces of w bytes each, behind which the rest is compared; its answer is to be r. The invariant: from the i-th piece on
-- the answer is r, i comparisons having been made.
module _ (a b : List ℕ) (w n : ℕ) (rest : List ℕ) (r : Compared) where
  abbrev pub Left : ℕ → Type 0
  Left i = (i ≤ n) × (After a b (w * i) i (replicate (n - i) w ++ rest) ≡ r)

  -- it holds at the start
  begins : compared_by (replicate n w ++ rest) a b ≡ r → Left 0
  unfolding compared_by
  begins e = (omega arith, rw (mul-zero, sub-zero, zero-add) e)

  -- a turn
  module _ (i : ℕ) (inv : Left i) (h : i < n) (k : w * i + w ≤ length a) (l : w * i + w ≤ length b)
      (x y : ℕ) (e : order x y ≡ byte_order (part a (w * i) w) (part b (w * i) w)) where
    next : After a b (w * i) i (w ∷ (replicate (n - (i + 1)) w ++ rest)) ≡ r
    next = rw (left-more n i h) at inv.1

    differs : (x ≡ y → ⊥) → record { order = order x y; comparisons = i + 1 } ≡ r
    differs m = differ a b (w * i) i w (replicate (n - (i + 1)) w ++ rest) r next k l x y e m

    agrees : x ≡ y → Left (i + 1)
    agrees m = (omega arith, rw (add-one, mul-suc w i, ← add-one) (agree a b (w * i) i w (replicate (n - (i + 1)) w ++ rest) r next k l x y e m))

  -- all pieces agree: the rest decides
  ends : (i : ℕ) → Left i → n ≤ i → After a b (w * n) n rest ≡ r
  ends i inv h =
      let e : i ≡ n = omega arith in
      let f : n - n ≡ 0 = omega arith in
      rw (e, f) at inv.1

-- THE LOOP OVER SINGLE BYTES, of as many as both have.
abbrev pub by_bytes : List ℕ → List ℕ → Compared
by_bytes a b = compared_by (replicate (min (length a) (length b)) 1) a b

-- the byte that stands behind the first i, and what stands behind it
behind_first : (s : List ℕ) (i x : ℕ) (r : List ℕ) → x ∷ r ≡ drop i s → (i < length s) × (x ≡ get_or s i 0) × (r ≡ drop (i + 1) s)
behind_first s i x r e =
    let h : i < length s = omega (arith, length-drop i s, ap length e) in
    let f : x ∷ r ≡ get_or s i 0 ∷ drop (i + 1) s = e ∙ drop_more s i 0 h in
    (h, cc, cc)

module _ (a b : List ℕ) where
  abbrev both : ℕ
  both = min (length a) (length b)

  -- i bytes of each were compared and agree, and these lists are left of the two
  pub record Rests (i : ℕ) (ra rb : List ℕ) : Type 0 where
    pub first : ra ≡ drop i a
    pub second : rb ≡ drop i b
    pub left : Left a b 1 both [] (by_bytes a b) i

  pub rests-begin : (i : ℕ) (ra rb : List ℕ) → i ≡ 0 → ra ≡ a → rb ≡ b → Rests i ra rb
  rests-begin i ra rb e f g = rw (e, f, g) (record { first = refl; second = refl; left = begins a b 1 both [] (by_bytes a b) (rw (append-nil)) })

  -- a turn
  module _ (i x y : ℕ) (ra rb : List ℕ) (inv : Rests i (x ∷ ra) (y ∷ rb)) where
    in_a : (i < length a) × (x ≡ get_or a i 0) × (ra ≡ drop (i + 1) a)
    in_a = behind_first a i x ra inv.first

    in_b : (i < length b) × (y ≡ get_or b i 0) × (rb ≡ drop (i + 1) b)
    in_b = behind_first b i y rb inv.second

    one : order x y ≡ byte_order (part a (1 * i) 1) (part b (1 * i) 1)
    unfolding part byte_order
    one =
        rw (one-mul, in_a.1, in_b.1, drop-cons a i 0 in_a.0, drop-cons b i 0 in_b.0)
        (sym (then_equal (order (get_or a i 0) (get_or b i 0))))

    pub rests_differ : (x ≡ y → ⊥) → record { order = order x y; comparisons = i + 1 } ≡ by_bytes a b
    rests_differ n =
        differs a b 1 both [] (by_bytes a b) i inv.left (omega (arith, in_a.0, in_b.0)) (omega (arith, in_a.0)) (omega (arith, in_b.0)) x y one n

    pub rests_agree : x ≡ y → Rests (i + 1) ra rb
    rests_agree n =
        record {
          first = in_a.2;
          second = in_b.2;
          left =
              agrees a b 1 both [] (by_bytes a b) i inv.left (omega (arith, in_a.0, in_b.0)) (omega (arith, in_a.0)) (omega (arith, in_b.0)) x y one n;
        }

  -- nothing is left of one: the lengths decide
  pub rests_end : (i : ℕ) (ra rb : List ℕ) → Rests i ra rb → both ≤ i → record { order = order (length a) (length b); comparisons = both } ≡ by_bytes a b
  unfolding through
  rests_end i ra rb inv h = rw (← by_length a b both refl) (rw (one-mul, add-zero) at (ends a b 1 both [] (by_bytes a b) i inv.left h))

  -- where nothing is left of one, as many were compared as the shorter has
  pub rests_none : {P Q : Type 0} (i : ℕ) (ra rb : List ℕ) → Rests i ra rb → (P → length ra ≡ 0) → (Q → length rb ≡ 0) → P ⊎ Q → both ≤ i
  rests_none i ra rb inv f g (inl p) = omega (arith, f p, ap length inv.first, length-drop i a)
  rests_none i ra rb inv f g (inr q) = omega (arith, g q, ap length inv.second, length-drop i b)

-- single bytes are compared no oftener than there are any
pub bytes_most : (a b : List ℕ) → (by_bytes a b).comparisons ≤ length a
unfolding compared_by
bytes_most a b =
    let n : ℕ = min (length a) (length b) in
    omega (arith, through_most (replicate n 1) a b, length-replicate {A = ℕ} n 1)

-- THE LOOP OVER EIGHTS, of as many as both have.
abbrev pub singles : List ℕ → List ℕ → List ℕ
singles a b = replicate (min (length a) (length b) % 8) 1

module _ (a b : List ℕ) (eights : ℕ) (m : eights ≡ min (length a) (length b) / 8) where
  pub eights-begin : Left a b 8 eights (singles a b) (compared a b) 0
  unfolding compared widths
  eights-begin = begins a b 8 eights (singles a b) (compared a b) (rw m)

  -- a turn
  module _ (ba : Bytes a) (bb : Bytes b) (i : ℕ) (inv : Left a b 8 eights (singles a b) (compared a b) i) (h : i < eights)
      (x y : ℕ) (p : x ≡ be 8 (drop (8 * i) a)) (q : y ≡ be 8 (drop (8 * i) b)) where
    eight : order x y ≡ byte_order (part a (8 * i) 8) (part b (8 * i) 8)
    unfolding part
    eight =
        rw (p, q)
        (order-be 8 (drop (8 * i) a) (drop (8 * i) b) (bytes_drop (8 * i) a ba) (bytes_drop (8 * i) b bb)
        (omega (arith, length-drop (8 * i) a)) (omega (arith, length-drop (8 * i) b)))

    pub eights_differ : (x ≡ y → ⊥) → record { order = order x y; comparisons = i + 1 } ≡ compared a b
    eights_differ n = differs a b 8 eights (singles a b) (compared a b) i inv h (omega arith) (omega arith) x y eight n

    pub eights_agree : x ≡ y → Left a b 8 eights (singles a b) (compared a b) (i + 1)
    eights_agree n = agrees a b 8 eights (singles a b) (compared a b) i inv h (omega arith) (omega arith) x y eight n

  -- what single bytes make of what is left behind the eights
  module _ (rest : Compared) (e : rest ≡ by_bytes (part a (8 * eights) (length a - 8 * eights)) (part b (8 * eights) (length b - 8 * eights))) where
    behind : rest ≡ by_bytes (drop (8 * eights) a) (drop (8 * eights) b)
    behind = e ∙ ap₂ by_bytes (part-rest a (8 * eights)) (part-rest b (8 * eights))

    -- it decides where no eight is left
    pub eights_end : (i : ℕ) → Left a b 8 eights (singles a b) (compared a b) i → eights ≤ i
        → record { order = rest.order; comparisons = eights + rest.comparisons } ≡ compared a b
    unfolding compared_by
    eights_end i inv h =
        let n : min (length (drop (8 * eights) a)) (length (drop (8 * eights) b)) ≡ min (length a) (length b) % 8 =
        omega (arith, length-drop (8 * eights) a, length-drop (8 * eights) b) in
        rw (behind, n) (ends a b 8 eights (singles a b) (compared a b) i inv h)

    -- all comparisons together are no more than there are bytes
    pub eights_few : eights + rest.comparisons ≤ length a
    eights_few =
        omega (arith, ap (λ (r : Compared). r.comparisons) behind, bytes_most (drop (8 * eights) a) (drop (8 * eights) b), length-drop (8 * eights) a)
