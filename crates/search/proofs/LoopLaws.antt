-- A search over a leaf's positions, one at a time: from position i on with n left it is `from i n`, which is `stop i` where
-- none is left, declined at a slot of 15, and else what `turn` makes of the slot and of the rest.
use Rattle.std.specs.Prelude.{◌≡◌, ◌+◌, ◌-◌, ◌≤◌, ◌<◌, Result, Err}
use Rattle.base.specs.Kit.{List, ℕ, zero, suc, arith, leb-false, leb}
use Rattle.base.specs.Pick.{pick}
use Rattle.base.proofs.Choice.{pick_ind}
use Rattle.base.proofs.Count.{left-more}
use Rattle.search.specs.Types.{Decline, Unreadable, Ordering, Less, Equal, Greater, Slot}
use Rattle.search.specs.Helper.{slot_in, by_order}

pub record Loop {A : Type 0} (image : List ℕ) (leaf : ℕ) (stop : ℕ → Result A Decline) (turn : ℕ → Slot → Result A Decline → Result A Decline)
    (from : ℕ → ℕ → Result A Decline) : Type 0 where
  pub none : (i : ℕ) → from i zero ≡ stop i
  pub more : (i n : ℕ)
      → from i (suc n) ≡ pick (leb 15 (slot_in image leaf i).0) (Err Unreadable) (turn i (slot_in image leaf i) (from (i + 1) n))

-- A turn of it where size - i are left, and its end.
abbrev pub More : {A : Type 0} → List ℕ → ℕ → (ℕ → Slot → Result A Decline → Result A Decline) → (ℕ → ℕ → Result A Decline) → Type 0
More image leaf turn from =
    (i size : ℕ) → i < size
    → from i (size - i) ≡ pick (leb 15 (slot_in image leaf i).0) (Err Unreadable) (turn i (slot_in image leaf i) (from (i + 1) (size - (i + 1))))

abbrev pub Ends : {A : Type 0} → (ℕ → A) → (ℕ → ℕ → A) → Type 0
Ends stop from = (i size : ℕ) → i ≡ size → from i (size - i) ≡ stop size

module _ {A : Type 0} {image : List ℕ} {leaf : ℕ} {stop : ℕ → Result A Decline} {turn : ℕ → Slot → Result A Decline → Result A Decline}
    {from : ℕ → ℕ → Result A Decline} (loop : Loop image leaf stop turn from) where
  pub one_more : More image leaf turn from
  one_more i size h = rw (left-more size i h) (loop.more i (size - (i + 1)))

  pub at_end : Ends stop from
  at_end i size h = let e : size - i ≡ 0 = omega arith in rw (e, h) (loop.none size)

  -- what holds of a decline and of the end, and of a turn where it holds of the rest, holds of the whole
  pub all_turns : (P : Result A Decline → Type 0) (size : ℕ) → P (Err Unreadable) → ((i : ℕ) → i ≤ size → P (stop i))
      → ((i : ℕ) (rest : Result A Decline) → i < size → (slot_in image leaf i).0 < 15 → P rest → P (turn i (slot_in image leaf i) rest))
      → (i n : ℕ) → i + n ≤ size → P (from i n)
  all_turns P size x f g i zero h = rw (loop.none i) (f i (omega arith))
  all_turns P size x f g i (suc n) h =
      rw (loop.more i n)
      (pick_ind P _ (λ t. x)
      (λ t. g i _ (omega arith) (leb-false 15 (slot_in image leaf i).0 t) (all_turns P size x f g (i + 1) n (omega arith))))

-- what holds of the answers to the three orders holds of the one that is chosen
pub order_ind : {A : Type 0} (P : A → Type 0) (o : Ordering) {l m g : A} → P l → P m → P g → P (by_order o l m g)
unfolding by_order
order_ind P Less x y z = x
order_ind P Equal x y z = y
order_ind P Greater x y z = z
