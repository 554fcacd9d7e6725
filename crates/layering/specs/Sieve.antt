-- The part of a list of pairs that a walk is asked for: those whose keys pass a test, the tests of the two starts ("above" a cursor, and
-- "from" it on), in plain byte order, and the row of an image by start and bound.
use Rattle.std.specs.Prelude.{◌∷◌}
use Rattle.base.specs.Kit.{Bool, true, false, List, [], ℕ}
use Rattle.base.specs.Pick.{pick}
use Rattle.key.specs.Order.{byte_order}
use Rattle.std.specs.declared.cmp.Ordering.{Ordering}
use Rattle.std.specs.declared.cmp.Ordering.TheVariants.{Less, Equal, Greater}
use Rattle.cursor.specs.RangeBound.{contains}
use Rattle.cursor.specs.declared.range_bound.StartMode.{StartMode}
use Rattle.cursor.specs.declared.range_bound.StartMode.TheVariants.{Above, From}
use Rattle.layering.specs.Keys.{Pair, live_pairs}

-- The pairs whose keys pass the test t, in their order.
unfoldable pub sieve : (List ℕ → Bool) → List Pair → List Pair
sieve t [] = []
sieve t (x ∷ l) = pick (t x.key) (x ∷ sieve t l) (sieve t l)

unfoldable pub is_less : Ordering → Bool
is_less Less = true
is_less Equal = false
is_less Greater = false

unfoldable pub is_not_greater : Ordering → Bool
is_not_greater Less = true
is_not_greater Equal = true
is_not_greater Greater = false

-- Whether a key stands above the cursor.
unfoldable pub is_above : List ℕ → List ℕ → Bool
is_above cursor key = is_less (byte_order cursor key)

-- Whether a key stands above the cursor or is the cursor's own.
unfoldable pub is_from : List ℕ → List ℕ → Bool
is_from cursor key = is_not_greater (byte_order cursor key)

-- THE ROW: the live keys past the start that the bound admits, with their values.
unfoldable pub past : StartMode → List ℕ → List ℕ → Bool
past Above cursor key = is_above cursor key
past From cursor key = is_from cursor key

unfoldable pub row_of : List ℕ → StartMode → List ℕ → ℕ → List ℕ → List Pair
row_of image mode cursor kind bound = sieve (contains kind bound) (sieve (past mode cursor) (live_pairs image))
