-- What demand 3 speaks of: a list of steps, what they say, and the row that they hand out (01: "Demand 3 is one claim about its
-- whole list, not one for each step").
use Rattle.std.specs.Prelude.{◌∷◌, ◌⊎◌, ◌≡◌, ◌+◌, ◌*◌, ◌≤◌}
use Rattle.base.specs.Kit.{Bool, true, false, not, List, [], ℕ, eqb, length, take, replicate}
use Rattle.base.specs.Pick.{pick}
use Rattle.layering.specs.Keys.{Pair}
use Rattle.layering.specs.Ascending.{Ascending}
use Rattle.layering.specs.Sieve.{row_of}
use Rattle.verify.specs.Check.{check_counts, check}
use Rattle.walk.specs.Walk.{number_of, keys_of, len_of, value_of}
use Rattle.walk.specs.Placing.{place}
use Rattle.lent.specs.Form.{Form, by_value, step_as}
use Rattle.demands.specs.Types.{StartMode, Walk, Stepped}

-- A CALL of the step: its form, by value or with the walk lent, and the bytes that it is lent for the image.
pub record Call : Type 0 where
  pub form : Form
  pub bytes : List ℕ

-- THE STEPS: each is given the walk as the one before left it ("once the lent form is there, the list takes its steps too").
unfoldable pub steps : Walk → List Call → List Stepped
steps w [] = []
steps w (c ∷ rest) = step_as c.form w c.bytes ∷ steps (step_as c.form w c.bytes).walk rest

-- So many of them over one image, by value.
unfoldable pub calls_of : List ℕ → ℕ → List Call
calls_of image n = replicate n (record { form = by_value; bytes = image })

-- Each is lent the image that the walk was placed over, or bytes of another length.
unfoldable pub Lent : List ℕ → List Call → Type 0
Lent image [] = Unit {0}
Lent image (c ∷ rest) = ((c.bytes ≡ image) ⊎ (length c.bytes ≡ length image → ⊥)) × Lent image rest

-- WHAT A STEP SAYS, by its answer's number and values: a number; none; or a key with its value, whose bytes are "the first bytes of the
-- walk's buffer".
pub data Said : Type 0 where
  hands_out : Pair → Said
  none : Said
  declines : ℕ → Said

unfoldable pub said_by : Stepped → Said
said_by s =
    let a = s.answer in
    pick (not (eqb (number_of a) 0)) (declines (number_of a))
    (pick (eqb (keys_of a) 0) none (hands_out (record { key = take (len_of a) s.walk.cursor.buf; value = value_of a })))

unfoldable pub said : List Stepped → List Said
said [] = []
said (s ∷ rest) = said_by s ∷ said rest

unfoldable pub moves_of : List Stepped → ℕ
moves_of [] = 0
moves_of (s ∷ rest) = s.moves + moves_of rest

-- Which of the steps are lent bytes of the image's length.
unfoldable pub own : List ℕ → List Call → List Bool
own image [] = []
own image (c ∷ rest) = eqb (length c.bytes) (length image) ∷ own image rest

-- WHAT THE STEPS ARE TO SAY: those lent another length are declined with 21; each other hands out the next of the row, and none once it is
-- out.
unfoldable pub head_said : List Pair → Said
head_said [] = none
head_said (x ∷ row) = hands_out x

unfoldable pub tail_of : List Pair → List Pair
tail_of [] = []
tail_of (x ∷ row) = row

unfoldable pub due : List Bool → List Pair → List Said
due [] row = []
due (true ∷ rest) row = head_said row ∷ due rest (tail_of row)
due (false ∷ rest) row = declines 21 ∷ due rest row

-- "a step lent another length gets 21 and changes nothing": it makes no move, and the walk is as it came.
unfoldable pub Foreign : List ℕ → Walk → List Call → Type 0
Foreign image w [] = Unit {0}
Foreign image w (c ∷ rest) =
    let s = step_as c.form w c.bytes in
    ((length c.bytes ≡ length image → ⊥) → (number_of s.answer ≡ 21) × (s.moves ≡ 0) × (s.walk ≡ w)) × Foreign image s.walk rest

-- DEMAND 3, of a placing over an image and a list of steps. What the steps say is what is due of the row: the image's live pairs, written
-- down by the paper's layering, past the start and within the bound. Steps lent another length change nothing. The row ascends strictly
-- in plain byte order, so each key is handed out once. And all steps together make no more moves than there are leaves, value slots, four
-- for each sub-layer, and two.
pub record Demand3 (image : List ℕ) (mode : StartMode) (cursor : List ℕ) (kind : ℕ) (bound : List ℕ) (calls : List Call) : Type 0 where
  pub says : said (steps (place image mode cursor kind bound).walk calls) ≡ due (own image calls) (row_of image mode cursor kind bound)
  pub foreign : Foreign image (place image mode cursor kind bound).walk calls
  pub ascends : Ascending (row_of image mode cursor kind bound)
  pub total : moves_of (steps (place image mode cursor kind bound).walk calls)
      ≤ (check_counts (check image)).leaves + (check_counts (check image)).value_slots + 4 * (check_counts (check image)).sub_layers + 2
