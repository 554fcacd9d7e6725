-- The numbers of a leaf that is built: its permutation, and the bits of its live mask. Assumes nothing.
use Rattle.std.specs.Prelude.{◌≡◌, ◌∷◌, ◌+◌, ◌*◌, ◌/◌, ◌%◌, ◌^◌, ◌≤◌, ◌<◌}
use Rattle.base.specs.Kit.{Bool, true, false, refl, List, [], map, ℕ, zero, suc, pow-succ', div-div-eq-div-mul, zero-div, arith, dec_lt, eqb, length, get_or}
use Rattle.base.specs.Pick.{pick}
use Rattle.node.specs.Version.{bit}
use Rattle.node.specs.Permuter.{slot_at}
use Rattle.layering.specs.Tree.{Fields}
use Rattle.layering.specs.Accepted.{IsPermutation}
use Rattle.building.specs.Shape.{identity}
use Rattle.building.specs.Build.{mask}

-- the field behind the size
nibble : (n i : ℕ) → n < 16 → (identity + n) / 2 ^ (4 * i + 4) ≡ 0xedcba9876543210 / 2 ^ (4 * i)
unfolding identity
nibble n i h =
    let e : (0xedcba98765432100 + n) / 16 ≡ 0xedcba9876543210 = omega arith in
    let d : 4 * i + 4 ≡ suc (suc (suc (suc (4 * i)))) = omega arith in
    let f : 2 ^ (4 * i + 4) ≡ 16 * 2 ^ (4 * i) = rw d (omega arith) in
    rw (f, ← div-div-eq-div-mul (0xedcba98765432100 + n) 16 (2 ^ (4 * i)), e) refl

-- a property of the numbers below n, one after the other
abbrev Below : (ℕ → Type 0) → ℕ → Type 0
Below P zero = Unit {0}
Below P (suc n) = Below P n × P n

below : (P : ℕ → Type 0) (n : ℕ) → Below P n → (i : ℕ) → i < n → P i
below P zero b i h = absurd (omega arith)
below P (suc n) b i h = go (dec_lt i n) (λ l. below P n b.0 i l)
  where
    go : Dec (i < n) → (i < n → P i) → P i
    go (yes l) f = f l
    go (no l) f = let e : i ≡ n = omega arith in rw e b.1

small : (i : ℕ) → i < 15 → 0xedcba9876543210 / 2 ^ (4 * i) % 16 ≡ i
small = below (λ (i : ℕ). 0xedcba9876543210 / 2 ^ (4 * i) % 16 ≡ i) 15
    (((((((((((((((tt, refl), refl), refl), refl), refl), refl), refl), refl), refl), refl), refl), refl), refl), refl), refl)

pub identity_slot : (n i : ℕ) → n < 16 → i < 15 → slot_at (identity + n) (record { 0 = i }) ≡ record { 0 = i }
unfolding slot_at
identity_slot n i h l = rw (nibble n i h, small i l)

pub identity_size : (n : ℕ) → n < 16 → (identity + n) % 16 ≡ n
unfolding identity
identity_size n h = omega arith

pub identity-permutes : (n : ℕ) → n < 16 → IsPermutation (identity + n)
unfolding IsPermutation
identity-permutes n h = (
  λ i l. rw (identity_slot n i h l) l,
  λ i j l m e.
      let a : (slot_at (identity + n) (record { 0 = i })).0 ≡ i = rw (identity_slot n i h (omega arith)) in
      let b : (slot_at (identity + n) (record { 0 = j })).0 ≡ j = rw (identity_slot n j h m) in
      omega arith,
)

-- THE LIVE MASK
-- the lowest bit as a number
one_bit : (b : Bool) → (pick b 1 0 < 2) × (eqb (pick b 1 0) 1 ≡ b)
unfolding pick
one_bit true = (omega arith, refl)
one_bit false = (omega arith, refl)

pub mask_lt : (l : List Fields) (n : ℕ) → length l ≤ n → mask l < 2 ^ n
unfolding mask
mask_lt [] zero h = omega arith
mask_lt [] (suc n) h = omega (arith, mask_lt [] n (omega arith))
mask_lt (s ∷ l) zero h = absurd (omega arith)
mask_lt (s ∷ l) (suc n) h = omega (arith, (one_bit s.live).0, mask_lt l n (omega arith))

pub mask-bit : (l : List Fields) (i : ℕ) → bit (mask l) i ≡ get_or (map (λ (s : Fields). s.live) l) i false
unfolding mask bit
mask-bit [] i =
    let e : 0 / 2 ^ i ≡ 0 = zero-div (2 ^ i) in
    rw e refl
mask-bit (s ∷ l) zero =
    let c : ℕ = pick s.live 1 0 in
    let e : (c + 2 * mask l) / 2 ^ 0 % 2 ≡ c = omega (arith, (one_bit s.live).0) in
    rw e (one_bit s.live).1
mask-bit (s ∷ l) (suc i) =
    let c : ℕ = pick s.live 1 0 in
    let e : (c + 2 * mask l) / 2 ≡ mask l = omega (arith, (one_bit s.live).0) in
    rw (pow-succ', ← div-div-eq-div-mul (c + 2 * mask l) 2 (2 ^ i), e) (mask-bit l i)
