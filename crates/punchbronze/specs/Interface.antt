-- What the functions that C calls return, and what they leave in each slice that is lent to them. LENT OUTPUT is treated one way (01: "A
-- declined call returns its number, zero elsewhere"): where it has the length of what is to be said, it is written, with zeros where the
-- call is declined; where it has another length, it stays.
use Rattle.std.specs.Prelude.{◌∷◌, ◌≡◌, Result}
use Rattle.base.specs.Kit.{Bool, List, [], ℕ, eqb, length, replicate}
use Rattle.base.specs.Pick.{pick}
use Rattle.punchbronze.specs.Types.{Counts, Decline, Placed}
use Rattle.verify.specs.Check.{check_counts}
use Rattle.survey.specs.Tally.{tally_count}
use Rattle.walk_record.specs.Record.{numbers_of, sized}
use Rattle.walk.specs.Walk.{answer_numbers}
use Rattle.walk.specs.Placing.{code_of}
use Rattle.record_step.specs.Step.{said_in, step_of, step_number, step_numbers, step_buf}

-- THE CHECK. Its three numbers: leaves, value slots, sub-layers.
unfoldable pub count_numbers : Result Counts Decline → List ℕ
count_numbers c = (check_counts c).leaves ∷ (check_counts c).value_slots ∷ (check_counts c).sub_layers ∷ []

unfoldable pub counts_after : Result Counts Decline → List ℕ → List ℕ
counts_after c counts = pick (eqb (length counts) 3) (count_numbers c) counts

-- A PLACING. 21 where the lent record has not a record's lengths, and then it stays; else the placing's number, and its walk.
abbrev pub fitting : List ℕ → List ℕ → List ℕ → Bool
fitting numbers buf bound = sized (length numbers) (length buf) (length bound)

unfoldable pub placed_number : Placed → List ℕ → List ℕ → List ℕ → ℕ
placed_number p numbers buf bound = pick (fitting numbers buf bound) (code_of p) 21

unfoldable pub placed_numbers : Placed → List ℕ → List ℕ → List ℕ → List ℕ
placed_numbers p numbers buf bound = pick (fitting numbers buf bound) (numbers_of p.walk) numbers

unfoldable pub placed_buf : Placed → List ℕ → List ℕ → List ℕ → List ℕ
placed_buf p numbers buf bound = pick (fitting numbers buf bound) p.walk.cursor.buf buf

unfoldable pub placed_bound : Placed → List ℕ → List ℕ → List ℕ → List ℕ
placed_bound p numbers buf bound = pick (fitting numbers buf bound) p.walk.bound.key bound

pub record PutPlaced (p : Placed) (numbers buf bound : List ℕ) (r : ℕ) (numbers' buf' bound' : List ℕ) : Type 0 where
  pub number : r ≡ placed_number p numbers buf bound
  pub numbers-left : numbers' ≡ placed_numbers p numbers buf bound
  pub buf-left : buf' ≡ placed_buf p numbers buf bound
  pub bound-left : bound' ≡ placed_bound p numbers buf bound

-- A STEP. Its number, and what it leaves of the record, are record_step's (specs/Step.antt there): a declined step leaves the record as it
-- came, and 21 is also the number where there is no room for the answer. What it says: its answer's six numbers, or six zeros.
unfoldable pub said_numbers : List ℕ → List ℕ → List ℕ → List ℕ → List ℕ → List ℕ
said_numbers numbers buf bound image out =
    let s = step_of numbers buf bound image in
    pick (eqb (step_number numbers buf bound image out) 0) (answer_numbers s.answer s.moves s.handed) (replicate said_in 0)

unfoldable pub out_after : List ℕ → List ℕ → List ℕ → List ℕ → List ℕ → List ℕ
out_after numbers buf bound image out = pick (eqb (length out) said_in) (said_numbers numbers buf bound image out) out

pub record StepLeft (numbers buf bound image out : List ℕ) (r : ℕ) (numbers' buf' out' : List ℕ) : Type 0 where
  pub number : r ≡ step_number numbers buf bound image out
  pub numbers-left : numbers' ≡ step_numbers numbers buf bound image out
  pub buf-left : buf' ≡ step_buf numbers buf bound image out
  pub out-left : out' ≡ out_after numbers buf bound image out

-- A TALLY. Its count.
unfoldable pub count_after : Result ℕ Decline → List ℕ → List ℕ
count_after t out = pick (eqb (length out) 1) (tally_count t ∷ []) out

-- A BUILDING says its image's length (02 [2]: "nothing written, length 0"): one number. The image goes into output of any length, as builder
-- says (specs/Answer.antt there).
unfoldable pub one_after : ℕ → List ℕ → List ℕ
one_after n out = pick (eqb (length out) 1) (n ∷ []) out
