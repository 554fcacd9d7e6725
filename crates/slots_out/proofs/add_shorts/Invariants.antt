-- The loop's invariant: the slots of the lines left, behind those added, are all (`ShortsSoFar`).
use Rattle.slots_out.proofs.Shorts.{ShortsSoFar}
use Rattle.slots_out.proofs.add_shorts.Given as goal

abbrev pub invariant-loop : goal.invariant-loop
invariant-loop l = ShortsSoFar l.sheet l.depth l.line l.n l.initial.s l.place l.s l.counter
