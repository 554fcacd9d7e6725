-- What a list of steps carries of the keys that have been handed out (02 [13]).
use Rattle.std.specs.Prelude.{◌∷◌, ◌+◌}
use Rattle.base.specs.Kit.{Bool, true, false, List, [], ℕ}
use Rattle.layering.specs.Keys.{Pair}
use Rattle.layering.specs.Depths.{depth_of}
use Rattle.walk.specs.Walk.{keys_of, nothing_yet, one_more}
use Rattle.lent.specs.Form.{step_as}
use Rattle.demands.specs.Types.{HandedOut, Walk, Stepped}
use Rattle.demands.specs.Demand.{Call, tail_of}

-- The walk after a list of steps, and how many keys these hand out.
unfoldable pub walk_after : Walk → List Call → Walk
walk_after w [] = w
walk_after w (c ∷ rest) = walk_after (step_as c.form w c.bytes).walk rest

unfoldable pub keys_out : List Stepped → ℕ
keys_out [] = 0
keys_out (s ∷ rest) = keys_of s.answer + keys_out rest

-- What the answers carry.
unfoldable pub handed_by : List Stepped → List HandedOut
handed_by [] = []
handed_by (s ∷ rest) = s.handed ∷ handed_by rest

-- WHAT THEY ARE TO CARRY over an accepted image, h before them, as `due` has what they are to say: with the next key of the row the depth of the
-- layer in which the tree holds it, and one more; once the row is out both as they stand; zeros where a step is declined.
unfoldable pub head_handed : List ℕ → List Pair → HandedOut → HandedOut
head_handed image [] h = h
head_handed image (x ∷ row) h = one_more h (depth_of image x.key)

unfoldable pub due_handed : List ℕ → List Bool → List Pair → HandedOut → List HandedOut
due_handed image [] row h = []
due_handed image (true ∷ rest) row h = head_handed image row h ∷ due_handed image rest (tail_of row) (head_handed image row h)
due_handed image (false ∷ rest) row h = nothing_yet ∷ due_handed image rest row h
