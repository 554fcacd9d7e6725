-- What a step of a walk's record returns, and what it leaves in each slice that is lent to it.
use Rattle.base.specs.Kit.{List, ℕ, eqb, length}
use Rattle.base.specs.Pick.{pick}
use Rattle.walk.specs.Walk.{number_of}
use Rattle.scan.specs.Machine.{step}
use Rattle.walk_record.specs.Record.{numbers_of, read_walk, is_record}
use Rattle.record_step.specs.Types.{Stepped}

-- How many numbers an answer has as it crosses to C (`answer_numbers`).
abbrev pub said_in : ℕ
said_in = 6

-- A STEP of a record's walk.
abbrev pub step_of : List ℕ → List ℕ → List ℕ → List ℕ → Stepped
step_of numbers buf bound image = step (read_walk numbers buf bound) image

-- Its number, 0 where it is not declined; 21 where the record is no walk's, or there is no room for the answer.
unfoldable pub step_number : List ℕ → List ℕ → List ℕ → List ℕ → List ℕ → ℕ
step_number numbers buf bound image out =
    pick (eqb (length out) said_in) (pick (is_record numbers buf bound) (number_of (step_of numbers buf bound image).answer) 21) 21

-- What a slice is left with: something new where the number is 0; else as it came.
unfoldable pub left : ℕ → List ℕ → List ℕ → List ℕ
left number new old = pick (eqb number 0) new old

unfoldable pub step_numbers : List ℕ → List ℕ → List ℕ → List ℕ → List ℕ → List ℕ
step_numbers numbers buf bound image out =
    left (step_number numbers buf bound image out) (numbers_of (step_of numbers buf bound image).walk) numbers

unfoldable pub step_buf : List ℕ → List ℕ → List ℕ → List ℕ → List ℕ → List ℕ
step_buf numbers buf bound image out =
    left (step_number numbers buf bound image out) (step_of numbers buf bound image).walk.cursor.buf buf
