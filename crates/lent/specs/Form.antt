-- The two forms of a step (01: "a second form of the step takes the walk lent and changes it there, same answer").
use Rattle.base.specs.Kit.{List, ℕ}
use Rattle.scan.specs.Machine.{step}
use Rattle.walk.specs.declared.scan_state.Walk.{Walk}
use Rattle.walk.specs.Types.{Stepped}
use Rattle.lent.specs.declared.StepAnswer.{StepAnswer}

-- "same answer": a step's answer, its moves and what its walk has handed out, without the walk.
abbrev pub answer_of : Stepped → StepAnswer
answer_of r = record { answer = r.answer; moves = r.moves; handed = r.handed }

-- an answer put together with a walk
abbrev pub stepped_of : StepAnswer → Walk → Stepped
stepped_of r w = record { answer = r.answer; moves = r.moves; handed = r.handed; walk = w }

pub data Form : Type 0 where
  by_value : Form
  lent : Form

-- A step in either form. The lent one: its answer, and the walk as it is left.
unfoldable pub step_as : Form → Walk → List ℕ → Stepped
step_as by_value w image = step w image
step_as lent w image = stepped_of (answer_of (step w image)) (step w image).walk
