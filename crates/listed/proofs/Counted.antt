-- 02 [3]: the count in the first line of an accepted image's sheet is that of its pairs, which are all the live ones; each has one line.
use Rattle.std.specs.Prelude.{◌≡◌}
use Rattle.base.specs.Kit.{ap, List, [], ℕ, length, eq-eqb}
use Rattle.base.specs.Pick.{pick}
use Rattle.layering.specs.Keys.{live_pairs}
use Rattle.layering.proofs.Lives.{whole_row, count-is-row}
use Rattle.verify.specs.Check.{check_number, check}
use Rattle.verify.proofs.Theorem.{accepted_obeys}
use Rattle.sheet.specs.Sheet.{sheet}
use Rattle.listed.specs.Listed.{listed_pairs, walk_moves, listed}

pub count-is-lines : (image : List ℕ) → check_number (check image) ≡ 0
    → (listed image ≡ sheet (length (listed_pairs image)) (listed_pairs image) (walk_moves image)) × (listed_pairs image ≡ live_pairs image)
unfolding listed listed_pairs pick
count-is-lines image a = (
  rw (eq-eqb (check_number (check image)) 0 a)
      (ap (λ (n : ℕ). sheet n (listed_pairs image) (walk_moves image)) (count-is-row image (accepted_obeys image a).0)),
  whole_row image [],
)
