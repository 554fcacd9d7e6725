-- A Start move with at most eight bytes left is 01's, over any bytes; in mode above, where the whole cursor has no more than eight
-- either.
use Rattle.std.specs.Prelude.{◌≡◌, ◌⊎◌, ◌+◌, ◌≤◌, Result, Ok, Err}
use Rattle.base.specs.Kit.{refl, List, ℕ}
use Rattle.moves.specs.Types.{Decline, Position, StartMode, From, ScanCtx}
use Rattle.base.specs.Decline.{and_then}
use Rattle.search.specs.Traversal.{reach}
use Rattle.start.specs.Start.{first_not_below, started}
use Rattle.start.proofs.ByRule01.{by_rule-01}
use Rattle.moves.specs.Moves.{standing, kept, taken_on, begin, start_in, find_start}
use Rattle.moves.specs.Start01.{start_in01, find_start01}

module _ (mode : StartMode) (image buf : List ℕ) (c : ScanCtx) where
  stands_so : (leaf : ℕ) (r : Result Position Decline)
      → taken_on buf (started r) (begin mode image buf c leaf)
      ≡ kept buf (and_then r (λ p. Ok (standing c leaf c.cursor c.dup c.last p)))
  unfolding begin started kept taken_on and_then
  stands_so leaf (Ok p) = refl
  stands_so leaf (Err d) = refl

  module _ (short : c.cursor.len ≤ 8) (rule : (mode ≡ From) ⊎ (c.cursor.offset + c.cursor.len ≤ 8)) where
    in_leaf : (r : Result ℕ Decline) → taken_on buf r (start_in mode image buf c) ≡ kept buf (and_then r (start_in01 image c))
    unfolding start_in start_in01 taken_on and_then
    in_leaf (Ok leaf) = rw (by_rule-01 mode image leaf c.cursor buf short rule) (stands_so leaf (first_not_below image leaf c.cursor))
    in_leaf (Err d) = refl

    pub start_by_rule-01 : find_start mode image buf c ≡ kept buf (find_start01 image c)
    unfolding find_start find_start01
    start_by_rule-01 = in_leaf (reach image c.cursor.ikey c.root)
