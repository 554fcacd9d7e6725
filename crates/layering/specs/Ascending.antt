-- Lists of pairs whose keys ascend strictly in plain byte order, and lists of which every pair has some property. The
-- theorems about `live_pairs` (proofs/Pairs.antt) are stated in these words.
use Rattle.std.specs.Prelude.{◌∷◌, ◌≡◌}
use Rattle.base.specs.Kit.{List, []}
use Rattle.key.specs.Order.{byte_order}
use Rattle.std.specs.declared.cmp.Ordering.TheVariants.{Less}
use Rattle.layering.specs.Keys.{Pair}

-- Every pair of the list has the property P.
abbrev pub All : (Pair → Type 0) → List Pair → Type 0
All P [] = Unit {0}
All P (x ∷ l) = P x × All P l

-- Each key stands before every key behind it, in plain byte order.
unfoldable pub Ascending : List Pair → Type 0
Ascending [] = Unit {0}
Ascending (x ∷ l) = All (λ (y : Pair). byte_order x.key y.key ≡ Less) l × Ascending l
