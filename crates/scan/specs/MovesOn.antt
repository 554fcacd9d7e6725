-- The machine as it was before 02 [12], by its difference from the one that is: the key exactly at the included end was as any other, so that
-- the walk stood in FindNext behind it too, and its next call moved on. No step is defined by it: what became of answers and moves is a
-- theorem about it, demands/proofs/AtEnd.antt.
use Rattle.base.specs.Kit.{List, ℕ, eqb}
use Rattle.base.specs.Pick.{pick}
use Rattle.walk.specs.Walk.{keys_of}
use Rattle.scan.specs.Types.{WalkState, WalkStateFindNext as FindNext, Walk, Stepped}
use Rattle.scan.specs.Machine.{scan_of, walk_of, step}

-- A walk with another state.
abbrev pub in_state : WalkState → Walk → Walk
in_state state w = walk_of w state w.handed (scan_of w)

-- A step that hands out a key leaves the walk in FindNext.
unfoldable pub moved_on : Stepped → Stepped
moved_on s = record {
  answer = s.answer;
  moves = s.moves;
  handed = s.handed;
  walk = pick (eqb (keys_of s.answer) 0) s.walk (in_state FindNext s.walk);
}

unfoldable pub step_on : Walk → List ℕ → Stepped
step_on w image = moved_on (step w image)
