-- What the functions here leave of a step: `out` is written where the step is not declined, and stays else. What a caller in C is left
-- with is punchbronze's.
use Rattle.std.specs.Prelude.{◌≡◌, Result, Ok, Err}
use Rattle.base.specs.Kit.{List, ℕ}
use Rattle.base.specs.Decline.{decline_number}
use Rattle.base.specs.declared.Decline.{Decline}
use Rattle.walk.specs.Walk.{answer_numbers}
use Rattle.record_step.specs.Step.{step_of, step_number, left, step_numbers, step_buf}

-- The number of a step that is made, 0, or of its decline.
abbrev pub number_made : Result Unit Decline → ℕ
number_made (Ok made) = 0
number_made (Err d) = decline_number d

unfoldable pub step_out : List ℕ → List ℕ → List ℕ → List ℕ → List ℕ → List ℕ
step_out numbers buf bound image out =
    let s = step_of numbers buf bound image in
    left (step_number numbers buf bound image out) (answer_numbers s.answer s.moves s.handed) out

-- All that a step of a record leaves: its number r, the numbers, the buffer and the answer.
pub record StepMade (numbers buf bound image out : List ℕ) (r : ℕ) (numbers' buf' out' : List ℕ) : Type 0 where
  pub number : r ≡ step_number numbers buf bound image out
  pub numbers-left : numbers' ≡ step_numbers numbers buf bound image out
  pub buf-left : buf' ≡ step_buf numbers buf bound image out
  pub out-left : out' ≡ step_out numbers buf bound image out
