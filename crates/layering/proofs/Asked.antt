-- The row that a walk is asked for: its starts by byte order, that it ascends, and that it goes by the live pairs alone.
use Rattle.std.specs.Prelude.{◌≡◌, ◌<◌, ◌∷◌}
use Rattle.base.specs.Kit.{ap, true, false, List, ℕ, get_or, Bool, []}
use Rattle.base.proofs.Choice.{pick_ind}
use Rattle.key.specs.Order.{byte_order}
use Rattle.std.specs.declared.cmp.Ordering.TheVariants.{Less, Equal, Greater}
use Rattle.cursor.specs.RangeBound.{contains}
use Rattle.cursor.specs.declared.range_bound.StartMode.{StartMode}
use Rattle.cursor.specs.declared.range_bound.StartMode.TheVariants.{Above, From}
use Rattle.layering.specs.Accepted.{Obeys}
use Rattle.layering.specs.Ascending.{All, Ascending}
use Rattle.layering.specs.Keys.{Pair, live_pairs}
use Rattle.layering.specs.Sieve.{sieve, is_less, is_not_greater, is_above, is_from, past, row_of}
use Rattle.layering.proofs.Sieve.{all-sieve, ascending-sieve}
use Rattle.layering.proofs.Pairs.{pairs-ascend}

-- A START by byte order; the two differ at the cursor's own key.
module _ (y a : List ℕ) where
  pub past_greater : (mode : StartMode) → byte_order y a ≡ Greater → past mode y a ≡ false
  unfolding past is_above is_from is_less is_not_greater
  past_greater Above e = rw e
  past_greater From e = rw e

  pub past_less : (mode : StartMode) → byte_order y a ≡ Less → past mode y a ≡ true
  unfolding past is_above is_from is_less is_not_greater
  past_less Above e = rw e
  past_less From e = rw e

  pub past-own : byte_order y a ≡ Equal → (past Above y a ≡ false) × (past From y a ≡ true)
  unfolding past is_above is_from is_less is_not_greater
  past-own e = (rw e, rw e)

-- THE ROW ascends.
module _ (image : List ℕ) (b : (i : ℕ) → get_or image i 0 < 256) (o : Obeys image) (mode : StartMode) (cursor : List ℕ) where
  pub past-ascends : Ascending (sieve (past mode cursor) (live_pairs image))
  past-ascends = ascending-sieve (past mode cursor) (live_pairs image) (pairs-ascend image b o)

  pub row_in-order : (kind : ℕ) (bound : List ℕ) → Ascending (row_of image mode cursor kind bound)
  unfolding row_of
  row_in-order kind bound = ascending-sieve (contains kind bound) (sieve (past mode cursor) (live_pairs image)) past-ascends

-- Its keys lie past the start, and the bound admits them.
passes : (t : List ℕ → Bool) (l : List Pair) → All (λ (x : Pair). t x.key ≡ true) (sieve t l)
unfolding sieve
passes t [] = tt
passes t (x ∷ l) = pick_ind (All (λ (y : Pair). t y.key ≡ true)) (t x.key) (λ e. (e, passes t l)) (λ e. passes t l)

pub row_admitted : (image : List ℕ) (mode : StartMode) (cursor : List ℕ) (kind : ℕ) (bound : List ℕ)
    → All (λ (x : Pair). past mode cursor x.key ≡ true) (row_of image mode cursor kind bound)
    × All (λ (x : Pair). contains kind bound x.key ≡ true) (row_of image mode cursor kind bound)
unfolding row_of
row_admitted image mode cursor kind bound =
    let start = sieve (past mode cursor) (live_pairs image) in
    (all-sieve (λ (x : Pair). past mode cursor x.key ≡ true) (contains kind bound) start (passes (past mode cursor) (live_pairs image)), passes (contains kind bound) start)

-- It goes by the live pairs alone: images that hold the same ones give the same row.
pub same_row : (image other : List ℕ) → live_pairs image ≡ live_pairs other
    → (mode : StartMode) (cursor : List ℕ) (kind : ℕ) (bound : List ℕ)
    → row_of image mode cursor kind bound ≡ row_of other mode cursor kind bound
unfolding row_of
same_row image other e mode cursor kind bound =
    ap (λ (l : List Pair). sieve (contains kind bound) (sieve (past mode cursor) l)) e
