-- What the check's tests of a record say: number 3 on reaching it, a leaf's permutation, an internode's separators.
use Rattle.std.specs.Prelude.{◌≡◌, ◌+◌, ◌%◌, ◌≤◌, ◌<◌, Option, Some, None, IfSome}
use Rattle.base.specs.Kit.{◌∙◌, Bool, true, List, ⊎_elim, refl, subst, sym, ℕ, zero, suc, eq-or-lt_of_le, arith, length}
use Rattle.node.specs.Permuter.{slot_at}
use Rattle.node.specs.Layout.{separator_at}
use Rattle.layering.specs.Accepted.{IsPermutation}
use Rattle.verify.specs.Types.{Progress}
use Rattle.verify.specs.Check.{reachable, is_next, expected, fresh_from, permutes_from, permutes, separators_from}
use Rattle.std.specs.Bool.{Decides}
use Rattle.std.proofs.lemmas.Bool.Decides.{Decides-and, Decides-eqb, Decides-like, Decides-ltb, Decides-not}
use Rattle.verify.proofs.Going.{says-leb}

-- NUMBER 3
pub record Reachable (image : List ℕ) (size at : ℕ) (p : Progress) : Type 0 where
  pub aligned : at % 8 ≡ 0
  pub behind : p.place ≤ at
  pub before : at + size + 32 ≤ length image

pub says-reachable : (image : List ℕ) (size at : ℕ) (p : Progress) → Decides (reachable image size at p) (Reachable image size at p)
unfolding reachable
says-reachable image size at p =
    Decides-like _ (λ h. search) (λ h. search)
    (Decides-and _ _ (Decides-eqb (at % 8) 0) (Decides-and _ _ (says-leb p.place at) (says-leb (at + size + 32) (length image))))

-- so a record that passed number 3 lies before the trailer
pub before_trailer : (image : List ℕ) (size at : ℕ) (p : Progress) (r : Bool) → r ≡ reachable image size at p → r ≡ true
    → at + size + 32 ≤ length image
before_trailer image size at p r e f = ((says-reachable image size at p).0 (sym e ∙ f)).before

-- NUMBER 9
pub says-next : (at : ℕ) (next : Option ℕ) → Decides (is_next at next) (IfSome next (λ n. n ≡ at))
unfolding is_next
says-next at None = (λ e. tt, λ h. refl)
says-next at (Some n) = Decides-eqb n at

pub says-expected : (at : ℕ) (p : Progress) → Decides (expected at p) (IfSome p.next (λ n. n ≡ at))
unfolding expected
says-expected at p = says-next at p.next

-- from i on, and from the next on
from_next : (P : ℕ → Type 0) (i n : ℕ) → P i → ((j : ℕ) → i + 1 ≤ j → j < i + 1 + n → P j) → (j : ℕ) → i ≤ j → j < i + suc n → P j
from_next P i n a f j h b = ⊎_elim (λ e. subst P e a) (λ l. f j (omega arith) (omega arith)) (eq-or-lt_of_le h)

-- NUMBER 5. `field i` is the slot at position i.
module _ (permutation : ℕ) where
  abbrev field : ℕ → ℕ
  field i = (slot_at permutation (record { 0 = i })).0

  says_fresh : (slot i n : ℕ) → Decides (fresh_from permutation slot i n) ((j : ℕ) → i ≤ j → j < i + n → field j ≡ slot → ⊥)
  unfolding fresh_from
  says_fresh slot i zero = (λ e j h b. absurd (omega arith), λ h. refl)
  says_fresh slot i (suc n) =
      Decides-like _ (λ h. from_next (λ (j : ℕ). field j ≡ slot → ⊥) i n h.0 h.1)
      (λ h. (h i (omega arith) (omega arith), λ j a b. h j (omega arith) (omega arith)))
      (Decides-and _ _ (Decides-not _ (Decides-eqb (field i) slot)) (says_fresh slot (i + 1) n))

  unfoldable Field : ℕ → Type 0
  Field j = (field j < 15) × ((k : ℕ) → k < j → field k ≡ field j → ⊥)

  says-permutes_from : (i n : ℕ) → Decides (permutes_from permutation i n) ((j : ℕ) → i ≤ j → j < i + n → Field j)
  unfolding permutes_from Field
  says-permutes_from i zero = (λ e j h b. absurd (omega arith), λ h. refl)
  says-permutes_from i (suc n) =
      Decides-like _ (λ h. from_next Field i n (h.0, λ k b. h.1.0 k (omega arith) (omega arith)) h.1.1)
      (λ h.
      let now : Field i = h i (omega arith) (omega arith) in
      (now.0, (λ j a b. now.1 j (omega arith), λ j a b. h j (omega arith) (omega arith))))
      (Decides-and _ _ (Decides-ltb (field i) 15) (Decides-and _ _ (says_fresh (field i) 0 i) (says-permutes_from (i + 1) n)))

  pub says-permutes : Decides (permutes permutation) (IsPermutation permutation)
  unfolding permutes IsPermutation Field
  says-permutes =
      Decides-like _ (λ h. (λ i b. (h i (omega arith) (omega arith)).0, λ i j l b. (h j (omega arith) (omega arith)).1 i l))
      (λ h j a b. (h.0 j (omega arith), λ k l. h.1 k j l (omega arith))) (says-permutes_from 0 15)

-- NUMBER 8: n separators from i on, between two ends.
unfoldable pub Separators : List ℕ → ℕ → ℕ → ℕ → ℕ → ℕ → Type 0
Separators image at lo hi i zero = Unit {0}
Separators image at lo hi i (suc n) =
    (lo < separator_at image at i) × (separator_at image at i < hi) × Separators image at (separator_at image at i) hi (i + 1) n

pub says-separators : (image : List ℕ) (at lo hi i n : ℕ) → Decides (separators_from image at lo hi i n) (Separators image at lo hi i n)
unfolding separators_from Separators
says-separators image at lo hi i zero = (λ e. tt, λ h. refl)
says-separators image at lo hi i (suc n) =
    Decides-like _ (λ h. (h.0, h.1.0, h.1.1)) (λ h. (h.0, (h.1, h.2)))
    (Decides-and _ _ (Decides-ltb lo (separator_at image at i))
    (Decides-and _ _ (Decides-ltb (separator_at image at i) hi) (says-separators image at (separator_at image at i) hi (i + 1) n)))
