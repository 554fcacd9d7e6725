-- THE PAIRS OF THE LINES FROM A PLACE ON: of up to n station lines at the front of a text, and the text behind these lines. Where the
-- lines are those of a sheet, they are its pairs (proofs/Pairs.antt).
use Rattle.std.specs.Prelude.{◌∷◌}
use Rattle.base.specs.Kit.{List, [], ℕ, zero, suc}
use Rattle.layering.specs.Keys.{Pair}
use Rattle.reading.specs.Read.{Got, none, got, station}

unfoldable pub cons_if : Got Pair → (List ℕ → List Pair) → List Pair
cons_if none f = []
cons_if (got x r) f = x ∷ f r

unfoldable pub pairs_in : ℕ → List ℕ → List Pair
pairs_in zero s = []
pairs_in (suc n) s = cons_if (station s) (pairs_in n)

unfoldable pub rest_if : List ℕ → Got Pair → (List ℕ → List ℕ) → List ℕ
rest_if s none f = s
rest_if s (got x r) f = f r

unfoldable pub behind : ℕ → List ℕ → List ℕ
behind zero s = s
behind (suc n) s = rest_if s (station s) (behind n)
