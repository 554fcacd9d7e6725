-- What a step and its walk carry of the keys that have been handed out (02 [13]), over any bytes and any walk record.
use Rattle.std.specs.Prelude.{◌≡◌, ◌+◌, Ok, Err}
use Rattle.walk.specs.Walk.{nothing_yet, keys_of}
use Rattle.scan.specs.Types.{HandedOut, Walk, Answer, Stepped}

-- What an answer carries, w being the walk after it: "The step's answer and the walk itself carry .. ", "a none gives both as they stand"; a
-- declined call returns "zero elsewhere".
unfoldable pub carried : Answer → Walk → HandedOut
carried (Ok key) w = w.handed
carried (Err d) w = nothing_yet

-- A step s of a walk w: "the depth at which the last key was found" is that of the layer in which the walk stands behind it, "how many have been
-- handed out" is one more with it; without a key both are as they were.
pub record Carries (w : Walk) (s : Stepped) : Type 0 where
  pub answer : s.handed ≡ carried s.answer s.walk
  pub count : s.walk.handed.count ≡ w.handed.count + keys_of s.answer
  pub depth : keys_of s.answer ≡ 1 → s.walk.handed.depth ≡ s.walk.depth
  pub stands : keys_of s.answer ≡ 0 → s.walk.handed ≡ w.handed
