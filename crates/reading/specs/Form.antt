-- WHAT A SHEET SAYS (01, "Surveyed examples": "The first line has the edition and the trailer's key count; then lower-case hex key (- for
-- empty) and decimal value; last the walk's moves"). Its text is the one that the listing prints (crates/sheet).
use Rattle.base.specs.Kit.{List, ℕ, length}
use Rattle.layering.specs.Keys.{Pair}
use Rattle.sheet.specs.Sheet.{sheet}

-- Its pairs in order, and the figure on its end line. The key count is the number of pairs.
pub record Sheet : Type 0 where
  pub pairs : List Pair
  pub figure : ℕ

-- THE TEXT of a sheet.
unfoldable pub text : Sheet → List ℕ
text x = sheet (length x.pairs) x.pairs x.figure
