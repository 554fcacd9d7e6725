-- THE WHOLE SHEET OF AN IMAGE (01, "Surveyed examples": "The first line has the edition and the trailer's key count; then lower-case hex
-- key (- for empty) and decimal value; last the walk's moves"; "A declined image prints only `refused n`"), the walk being that from the
-- empty key on, unbounded; and what all lines that the functions give come to.
use Rattle.std.specs.Prelude.{◌∷◌, ◌++◌, ◌≡◌, ◌+◌, ◌≤◌, ◌<◌, Option, Some, None, Result, Ok, Err}
use Rattle.base.specs.Kit.{List, [], ℕ, zero, suc, eqb, length, take, replicate}
use Rattle.base.specs.Pick.{pick}
use Rattle.base.specs.Decline.{decline_number}
use Rattle.node.specs.Layout.{key_count}
use Rattle.layering.specs.Keys.{Pair}
use Rattle.layering.specs.Sieve.{row_of}
use Rattle.verify.specs.Check.{check_number, check}
use Rattle.walk.specs.Placing.{place}
use Rattle.demands.specs.Demand.{steps, calls_of, moves_of}
use Rattle.sheet.specs.Sheet.{sheet, refused}
use Rattle.listed.specs.Types.{Decline, From, Line, Listing}
use Rattle.listed.specs.CodeLines.{opened, next_line}

-- The pairs of the sheet: the row from "" on, unbounded.
unfoldable pub listed_pairs : List ℕ → List Pair
listed_pairs image = row_of image From [] 0 []

-- "the walk's moves": those of the calls that hand out the pairs, and of the one that has none.
unfoldable pub walk_moves : List ℕ → ℕ
walk_moves image = moves_of (steps (place image From [] 0 []).walk (calls_of image (length (listed_pairs image) + 1)))

-- THE SHEET
unfoldable pub listed : List ℕ → List ℕ
listed image =
    let n = check_number (check image) in
    pick (eqb n 0) (sheet (key_count image) (listed_pairs image) (walk_moves image)) (refused n)

-- How many lines it has: `refused n`; or the first, one for each pair, and the last.
unfoldable pub line_count : List ℕ → ℕ
line_count image = pick (eqb (check_number (check image)) 0) (length (listed_pairs image) + 2) 1

-- THE LINES that the functions give: those of so many calls of `next_line`, each given the listing as the one before left it. Their
-- text, and their numbers.
unfoldable pub left_by : Listing → Result (Option Line) Decline → Listing
left_by l (Ok (Some x)) = x.listing
left_by l (Ok None) = l
left_by l (Err d) = l

unfoldable pub lines_of : List ℕ → ℕ → Listing → List (Result (Option Line) Decline)
lines_of image zero l = []
lines_of image (suc n) l = next_line l image ∷ lines_of image n (left_by l (next_line l image))

unfoldable pub line_text : Result (Option Line) Decline → List ℕ
line_text (Ok (Some x)) = take x.len x.bytes
line_text (Ok None) = []
line_text (Err d) = []

unfoldable pub text_of : List (Result (Option Line) Decline) → List ℕ
text_of [] = []
text_of (x ∷ xs) = line_text x ++ text_of xs

unfoldable pub line_number : Result (Option Line) Decline → ℕ
line_number (Ok x) = 0
line_number (Err d) = decline_number d

unfoldable pub line_numbers : List (Result (Option Line) Decline) → List ℕ
line_numbers [] = []
line_numbers (x ∷ xs) = line_number x ∷ line_numbers xs

-- A line with bytes.
unfoldable pub HasBytes : Result (Option Line) Decline → Type 0
HasBytes (Ok (Some x)) = 0 < x.len
HasBytes (Ok None) = ⊥
HasBytes (Err d) = ⊥

unfoldable pub Filled : List (Result (Option Line) Decline) → Type 0
Filled [] = Unit {0}
Filled (x ∷ xs) = HasBytes x × Filled xs

-- WHAT THEY COME TO, of any number of calls more than the sheet has lines: together they are the sheet; none was declined; as long as
-- the sheet goes on there is a line, and it has bytes, so that the first call without is behind its end; and there are no more lines than the image has bytes,
-- and two.
pub record AllLines (image : List ℕ) (more : ℕ) : Type 0 where
  pub text : text_of (lines_of image (line_count image + more) (opened image)) ≡ listed image
  pub numbers : line_numbers (lines_of image (line_count image + more) (opened image)) ≡ replicate (line_count image + more) 0
  pub filled : Filled (lines_of image (line_count image) (opened image))
  pub few : line_count image ≤ length image + 2
