-- What holds of what is read. The input itself is free, and no contract can say what it has: what is fixed is that no field is longer
-- than its limit. That a length is that of bytes which are there holds by the types.
use Rattle.std.specs.Prelude.{◌≡◌, ◌≤◌, ◌+◌, ◌⊎◌, Option, Some, None}
use Rattle.base.specs.Kit.{ℕ, zero, suc, length}
use Rattle.std.specs.Borrow.{Bor, MutBor}
use Rattle.std.specs.Fn.{Mut, Called}
use Rattle.requests.specs.declared.Mode.{Mode}
use Rattle.requests.specs.declared.Mode.TheVariants.{Above, From, Short}
use Rattle.requests.specs.declared.Request.{Request}

-- n is a start mode's number.
abbrev pub NamesMode : ℕ → Mode → Type 0
NamesMode n Above = n ≡ 0
NamesMode n From = n ≡ 1
NamesMode n Short = 2 ≤ n

-- A request, in a space of m bytes.
pub record Fits (F : Type 0) (m : ℕ) (r : Request F) : Type 0 where
  pub name : length r.name.now ≤ 256
  pub cursor : length r.cursor.now ≤ 512
  pub bound : length r.bound.now ≤ 512
  pub image : length r.image.now + 1280 ≤ m

-- f is called at a request in a space of m bytes and at the input: it gives o, and is f' then.
pub record Asked {A F R : Type 0} (g : Mut A (Bor (Request F) × (MutBor R × Unit {0})) (Option Unit × (MutBor R × Unit {0})))
    (m : ℕ) (f : A) (o : Option Unit) (f' : A) : Type 0 where
  pub request : Bor (Request F)
  pub input : MutBor R
  pub left : MutBor R
  pub fits : Fits F m request.now
  pub called : Called g f (request, (input, tt)) (o, (left, tt)) f'

-- From f to f' by n calls at most, by which f goes as `Asks` says: none is behind one that gives None. (That one
-- is made at all it does not say: how many requests the input has is free.)
unfoldable pub Answered : {A : Type 0} → (A → Option Unit → A → Type 0) → ℕ → A → A → Type 0
Answered Asks zero f f' = f' ≡ f
Answered {A} Asks (suc n) f f' = (f' ≡ f) ⊎ Asks f None f' ⊎ ((g : A) × Asks f (Some tt) g × Answered Asks n g f')
