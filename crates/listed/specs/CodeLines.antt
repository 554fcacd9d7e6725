-- The lines of a listing, one by one, as the functions give them. They serve the code: specs/Listed.antt says what all of them together
-- come to.
use Rattle.std.specs.Prelude.{◌+◌, ◌%◌, ◌^◌, Option, Some, None, Result, Ok, Err}
use Rattle.base.specs.Kit.{List, [], ℕ, take, replicate}
use Rattle.base.specs.Decline.{decline_number}
use Rattle.node.specs.Layout.{key_count}
use Rattle.layering.specs.Keys.{Pair}
use Rattle.verify.specs.Check.{check}
use Rattle.walk.specs.Placing.{place}
use Rattle.scan.specs.Machine.{step}
use Rattle.sheet.specs.Sheet.{first_line, pair_line, last_line, refused}
use Rattle.sheet.specs.Written.{written_len, written_out}
use Rattle.listed.specs.Types.{Decline, From, Counts, KeyOut, Stepped, Line, Listing, Stage, First, Pairs, Refused, Done}

-- A line's bytes before it is written.
unfoldable pub blank : List ℕ
blank = replicate 534 0

-- A line of some text.
unfoldable pub line_of : List ℕ → Listing → Line
line_of text l = record { len = written_len text blank; bytes = written_out text blank; listing = l }

-- A listing at another stage.
abbrev pub at : Stage → Listing → Listing
at stage l = record { stage = stage; moves = l.moves; walk = l.walk }

-- THE BEGIN: the first line of an image that is accepted; a decline's line else. The walk is placed in any case, from the empty key on
-- and unbounded.
unfoldable pub begun : Stage → List ℕ → Listing
begun stage image = record { stage = stage; moves = 0; walk = (place image From [] 0 []).walk }

unfoldable pub opened_as : Result Counts Decline → List ℕ → Listing
opened_as (Ok c) image = begun (First (key_count image)) image
opened_as (Err d) image = begun (Refused (decline_number d)) image

unfoldable pub opened : List ℕ → Listing
opened image = opened_as (check image) image

-- THE LINE OF A STEP, by its answer: the pair that it hands out; the moves of all steps where there is none; and no line where it is
-- declined. A number of 64 bits holds the sum, which over an accepted image stays below it.
unfoldable pub sum_of : Listing → Stepped → ℕ
sum_of l s = (l.moves + s.moves) % 2 ^ 64

unfoldable pub answer_line : Listing → Stepped → Result (Option KeyOut) Decline → Result (Option Line) Decline
answer_line l s (Ok (Some k)) =
    let x : Pair = record { key = take k.len s.walk.cursor.buf; value = k.value } in
    Ok (Some (line_of (pair_line x) (record { stage = Pairs; moves = sum_of l s; walk = s.walk })))
answer_line l s (Ok None) = Ok (Some (line_of (last_line (sum_of l s)) (record { stage = Done; moves = sum_of l s; walk = s.walk })))
answer_line l s (Err d) = Err d

abbrev pub step_line : Listing → Stepped → Result (Option Line) Decline
step_line l s = answer_line l s s.answer

-- THE NEXT LINE
unfoldable pub line_at : Stage → Listing → List ℕ → Result (Option Line) Decline
line_at (First count) l image = Ok (Some (line_of (first_line count) (at Pairs l)))
line_at Pairs l image = step_line l (step l.walk image)
line_at (Refused n) l image = Ok (Some (line_of (refused n) (at Done l)))
line_at Done l image = Ok None

unfoldable pub next_line : Listing → List ℕ → Result (Option Line) Decline
next_line l image = line_at l.stage l image
