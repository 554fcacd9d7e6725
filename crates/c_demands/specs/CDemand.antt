-- Demand 3 as C meets it: a list of calls of `pb_step` on one record, what they say by the numbers that they leave, and what is due. The row,
-- what is due of it and what can be said are those of demands/specs/Demand.antt.
use Rattle.std.specs.Prelude.{◌&&◌, ◌∷◌, ◌⊎◌, ◌≡◌, ◌+◌, ◌*◌, ◌≤◌}
use Rattle.base.specs.Kit.{Bool, false, not, List, [], ℕ, eqb, length, take, get_or, replicate}
use Rattle.base.specs.Pick.{pick}
use Rattle.layering.specs.Ascending.{Ascending}
use Rattle.layering.specs.Sieve.{row_of}
use Rattle.verify.specs.Check.{check_counts, check}
use Rattle.walk.specs.Walk.{nothing_yet}
use Rattle.record_step.specs.Step.{said_in, step_number, step_numbers, step_buf}
use Rattle.demands.specs.Demand.{Said, hands_out, none, declines, due}
use Rattle.punchbronze.specs.Interface.{out_after, StepLeft}
use Rattle.c_demands.specs.Types.{StartMode, HandedOut}

-- A CALL of `pb_step`: the bytes that it is lent for the image, and the lent output, whatever that holds.
pub record CCall : Type 0 where
  pub bytes : List ℕ
  pub out : List ℕ

-- WHAT A CALL LEAVES, by `pb_step`'s contract: its number, the record's numbers and buffer, and the output.
pub record CLeft : Type 0 where
  pub number : ℕ
  pub numbers : List ℕ
  pub buf : List ℕ
  pub out : List ℕ

unfoldable pub c_step : List ℕ → List ℕ → List ℕ → CCall → CLeft
c_step numbers buf bound c = record {
  number = step_number numbers buf bound c.bytes c.out;
  numbers = step_numbers numbers buf bound c.bytes c.out;
  buf = step_buf numbers buf bound c.bytes c.out;
  out = out_after numbers buf bound c.bytes c.out;
}

-- THE CALLS: each is given the record as the one before left it.
unfoldable pub c_steps : List ℕ → List ℕ → List ℕ → List CCall → List CLeft
c_steps numbers buf bound [] = []
c_steps numbers buf bound (c ∷ rest) =
    let s = c_step numbers buf bound c in
    s ∷ c_steps s.numbers s.buf bound rest

-- The same by the contract alone: what each call left is what `pb_step` ensures of the record as the one before left it.
unfoldable pub Kept : List ℕ → List ℕ → List ℕ → List CCall → List CLeft → Type 0
Kept numbers buf bound [] [] = Unit {0}
Kept numbers buf bound [] (s ∷ more) = ⊥
Kept numbers buf bound (c ∷ rest) [] = ⊥
Kept numbers buf bound (c ∷ rest) (s ∷ more) =
    StepLeft numbers buf bound c.bytes c.out s.number s.numbers s.buf s.out × Kept s.numbers s.buf bound rest more

-- Each is lent the image that the walk was placed over, or bytes of another length.
unfoldable pub CLent : List ℕ → List CCall → Type 0
CLent image [] = Unit {0}
CLent image (c ∷ rest) = ((c.bytes ≡ image) ⊎ (length c.bytes ≡ length image → ⊥)) × CLent image rest

-- Which of them step the walk: those over bytes of the image's length, with room for the answer.
unfoldable pub is_made : List ℕ → CCall → Bool
is_made image c = eqb (length c.bytes) (length image) && eqb (length c.out) said_in

unfoldable pub made : List ℕ → List CCall → List Bool
made image [] = []
made image (c ∷ rest) = is_made image c ∷ made image rest

-- WHAT A CALL SAYS: its number, where that is not 0; else `out` has 0 for none; else the key's length, its bytes being the first of `buf`, and
-- its value.
unfoldable pub c_said_by : CLeft → Said
c_said_by s =
    pick (not (eqb s.number 0)) (declines s.number)
    (pick (eqb (get_or s.out 0 0) 0) none (hands_out (record { key = take (get_or s.out 1 0) s.buf; value = get_or s.out 2 0 })))

unfoldable pub c_said : List CLeft → List Said
c_said [] = []
c_said (s ∷ rest) = c_said_by s ∷ c_said rest

-- Its moves: the fourth number of `out`, where the call is not declined.
unfoldable pub c_moves_by : CLeft → ℕ
c_moves_by s = pick (eqb s.number 0) (get_or s.out 3 0) 0

unfoldable pub c_moves_of : List CLeft → ℕ
c_moves_of [] = 0
c_moves_of (s ∷ rest) = c_moves_by s + c_moves_of rest

-- What a call carries (02 [13]): the last two numbers of `out`, where the call is not declined.
unfoldable pub c_handed_by : CLeft → HandedOut
c_handed_by s = pick (eqb s.number 0) (record { depth = get_or s.out 4 0; count = get_or s.out 5 0 }) nothing_yet

unfoldable pub c_handed : List CLeft → List HandedOut
c_handed [] = []
c_handed (s ∷ rest) = c_handed_by s ∷ c_handed rest

-- What each other call leaves: 21, the record as it came, and zeros in an output of six places; one of another length as it came.
pub record Untouched (numbers buf out : List ℕ) (s : CLeft) : Type 0 where
  pub number : s.number ≡ 21
  pub numbers_stay : s.numbers ≡ numbers
  pub buf_stay : s.buf ≡ buf
  pub out-left : s.out ≡ pick (eqb (length out) said_in) (replicate said_in 0) out

unfoldable pub CForeign : List ℕ → List ℕ → List ℕ → List ℕ → List CCall → Type 0
CForeign image numbers buf bound [] = Unit {0}
CForeign image numbers buf bound (c ∷ rest) =
    let s = c_step numbers buf bound c in
    (is_made image c ≡ false → Untouched numbers buf c.out s) × CForeign image s.numbers s.buf bound rest

-- DEMAND 3 OF C, of a record (numbers, buf, bound) that was placed over an image, and a list of calls. What they say is what is due of the row.
-- Those that are lent another length, or have no room for the answer, change nothing. The row ascends strictly in plain byte order. And all
-- calls together make no more moves than there are leaves, value slots, four for each sub-layer, and two.
pub record CDemand3 (image : List ℕ) (mode : StartMode) (cursor : List ℕ) (kind : ℕ) (key : List ℕ) (numbers buf bound : List ℕ)
    (calls : List CCall) : Type 0 where
  pub says : c_said (c_steps numbers buf bound calls) ≡ due (made image calls) (row_of image mode cursor kind key)
  pub foreign : CForeign image numbers buf bound calls
  pub ascends : Ascending (row_of image mode cursor kind key)
  pub total : c_moves_of (c_steps numbers buf bound calls)
      ≤ (check_counts (check image)).leaves + (check_counts (check image)).value_slots + 4 * (check_counts (check image)).sub_layers + 2
