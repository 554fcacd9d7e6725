-- Laws of a slot's tests: zero bytes by two shifts, a used position's slot, and its order.
use Rattle.std.specs.Prelude.{◌||◌, ◌≡◌, ◌+◌, ◌*◌, ◌/◌, ◌%◌, ◌-◌, ◌^◌, ◌<◌, ◌≤◌}
use Rattle.base.specs.Kit.{refl, true, List, ℕ, zero, suc, pow-suc, mod-eq_of_lt, div-add-mod', sub-one, arith, eqb, pow-add, ne_eqb}
use Rattle.node.specs.Permuter.{slot_at}
use Rattle.node.specs.declared.permuter.Position.{Position}
use Rattle.node.specs.Layout.{permutation_at}
use Rattle.layering.specs.Tree.{fields_at}
use Rattle.layering.specs.Accepted.{IsPermutation}
use Rattle.verify.specs.Check.{before, in_order, permutes}
use Rattle.verify.specs.CodeCases.{keyed_at}
use Rattle.std.proofs.lemmas.Bool.Decides.{Decides-eqb, Decides-like, same_from_decides}
use Rattle.verify.proofs.Records.{says-permutes}

-- eight bits to a byte
bytes : (m : ℕ) → 2 ^ (8 * m) ≡ 256 ^ m
bytes zero = refl
bytes (suc m) = let e : 8 * suc m ≡ 8 * m + 8 = omega arith in rw (e, pow-add 2 (8 * m) 8, bytes m, pow-suc 256 m)

-- an ikey comes back from two shifts where the bytes that they clear are zero
shifted : (x b : ℕ) → x < 2 ^ 64 → eqb (x / b * b % 18446744073709551616) x ≡ eqb (x % b) 0
shifted x b h =
    let split : x / b * b + x % b ≡ x = div-add-mod' x b in
    let whole : x / b * b % 18446744073709551616 ≡ x / b * b = mod-eq_of_lt (omega arith) in
    rw whole (same_from_decides _ _ (Decides-like _ (λ q. omega arith) (λ q. omega arith) (Decides-eqb (x / b * b) x)) (Decides-eqb (x % b) 0))

pub filled : (x n : ℕ) → x < 2 ^ 64 → n ≤ 8
    → eqb (x / 2 ^ (64 - 8 * n) * 2 ^ (64 - 8 * n) % 18446744073709551616) x ≡ eqb (x % 256 ^ (8 - n)) 0
filled x n h g = let e : 64 - 8 * n ≡ 8 * (8 - n) = omega arith in rw (e, bytes (8 - n)) (shifted x (256 ^ (8 - n)) h)

-- a permutation's slots are below 15
pub slot_inside : (permutation : ℕ) (position : Position) → permutes permutation ≡ true → position.0 < 15 → (slot_at permutation position).0 < 15
unfolding IsPermutation
slot_inside permutation position e h = ((says-permutes permutation).0 e).0 position.0 h

-- the order of a position's slot, which is by the slot before it, if there is one
pub in_order_at : (image : List ℕ) (at i : ℕ) → let slot = λ (k : ℕ). keyed_at image at (slot_at (permutation_at image at) (record { 0 = k })) in
    in_order image at i ≡ (eqb i 0 || before (slot (i - 1)) (slot i))
unfolding before in_order fields_at
in_order_at image at zero = refl
in_order_at image at (suc i) = rw (sub-one, ne_eqb (suc i) 0 (λ e. omega arith)) refl
