-- 01's Start move, by 01's own rule. No move is defined by it: "Up to eight bytes nothing changes" (02 [1]) is a theorem about it,
-- proofs/ByRule01.antt.
use Rattle.std.specs.Prelude.{Result, Ok}
use Rattle.base.specs.Kit.{List, ℕ}
use Rattle.base.specs.Decline.{and_then}
use Rattle.search.specs.Traversal.{reach}
use Rattle.start.specs.Start.{first_not_below}
use Rattle.moves.specs.Types.{Decline, ScanCtx, Pass}
use Rattle.moves.specs.Moves.{standing}

-- "reach the leaf and stand at the first slot whose ikey, then `keylenx`, is not below the cursor's ikey, then length, else past the
-- last; no duplicate check"; "Both go to FindNext."
unfoldable pub start_in01 : List ℕ → ScanCtx → ℕ → Result Pass Decline
start_in01 image c leaf = and_then (first_not_below image leaf c.cursor) (λ p. Ok (standing c leaf c.cursor c.dup c.last p))

unfoldable pub find_start01 : List ℕ → ScanCtx → Result Pass Decline
find_start01 image c = and_then (reach image c.cursor.ikey c.root) (start_in01 image c)
