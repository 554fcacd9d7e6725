-- THE THEOREMS, each by its name and its statement, and nothing else: its proof is where its last line names it. `Bytes x` says that x is a
-- list of bytes, as every lent slice is.
--
-- What functions return is fixed by their contracts, which are equations with definitions of the same names: `check_image` (verify/src/lib.rt),
-- `place` and `place_short` (walk/src/placing.rt), `step` (scan/src/step.rt), `step_lent` (lent/src/lib.rt), `tally` (survey/src/lib.rt),
-- `open` and `next_line` (listed/src/lib.rt), `read_sheet` and `station_at` (reading/src/lib.rt), `build` (builder/src/lib.rt), whose definitions are
-- `opened` of `read_sheet`, `StationRead`, and `built` with `built_out`, the six of punchbronze/src/lib.rt, and the bound test, `test` (cursor/src/range_bound.rt), whose
-- definition is `tested`. None of them has a `requires`.
use Rattle.std.specs.Prelude.{◌≡◌, ◌≤◌, ◌<◌, None, Ok, Err}
use Rattle.base.specs.Kit.{true, not, map, List, [], ℕ, eqb, length, get_or}
use Rattle.base.specs.Pick.{pick}
use Rattle.base.specs.declared.Decline.TheVariants.{WalkRange, SheetForm}
use Rattle.key.specs.Order.{byte_order}
use Rattle.cursor.specs.RangeBound.{side_of, is_within, contains, at_end}
use Rattle.cursor.specs.declared.range_bound.StartMode.{StartMode}
use Rattle.cursor.specs.declared.range_bound.StartMode.TheVariants.{Above, From}
use Rattle.node.specs.Layout.{key_count}
use Rattle.layering.specs.Tree.{tree_of}
use Rattle.layering.specs.Keys.{Pair, live_pairs}
use Rattle.layering.specs.Depths.{depths_n, depth_of}
use Rattle.layering.specs.Ascending.{All, Ascending}
use Rattle.layering.specs.Accepted.{Obeys}
use Rattle.layering.specs.Sieve.{past, row_of}
use Rattle.verify.specs.Check.{check_number, check_counts, check}
use Rattle.verify.specs.Acceptance.{tree_counts}
use Rattle.walk.specs.Walk.{keys_of, nothing_yet}
use Rattle.walk.specs.Placing.{placing, code_of, place, place_short}
use Rattle.walk.specs.declared.scan_state.Walk.{Walk}
use Rattle.scan.specs.Machine.{after_key, declined_with, answered, step}
use Rattle.scan.specs.Ends.{ends_with}
use Rattle.scan.specs.Carries.{Carries}
use Rattle.demands.specs.Demand.{Call, steps, Lent, own, Demand3}
use Rattle.demands.specs.AtEnd.{steps_on, StopsAtEnd}
use Rattle.demands.specs.HandedOut.{walk_after, keys_out, handed_by, due_handed}
use Rattle.survey.specs.Tally.{tally_number, tally_count, tally}
use Rattle.survey.specs.Tally01.{tally01}
use Rattle.sheet.specs.Sheet.{sheet}
use Rattle.listed.specs.Listed.{listed_pairs, walk_moves, listed, AllLines}
use Rattle.reading.specs.Form.{Sheet, text}
use Rattle.reading.specs.Good.{Good}
use Rattle.reading.specs.Fault.{keys_rise, judged, read_sheet}
use Rattle.building.specs.Build.{build}
use Rattle.builder.specs.Answer.{built, built_out, built_number, built_length}
use Rattle.built.specs.Built.{Taken, Rebuilt, Writes}
use Rattle.worked_examples.specs.Examples.{machine_says, paper_says, table}
use Rattle.walk_record.specs.Record.{numbers_of, read_walk, is_record}
use Rattle.punchbronze.specs.Interface.{fitting, placed_number, PutPlaced}
use Rattle.c_demands.specs.CDemand.{CCall, c_steps, CLent, made, c_handed, CDemand3}
use Rattle.scan.proofs.ByRule01.{ByRule01}
use Rattle.layering.proofs.Depths.{SameKeys, Has}
use Rattle.verify.proofs.Theorem as verify
use Rattle.cursor.proofs.Bound as bound
use Rattle.layering.proofs.Pairs as layering
use Rattle.layering.proofs.Asked as asked
use Rattle.layering.proofs.Lives as lives
use Rattle.layering.proofs.Depths as depths
use Rattle.demands.proofs.Demand as demands
use Rattle.demands.proofs.AtEnd as at_end_lem
use Rattle.demands.proofs.HandedOut as handed
use Rattle.walk.proofs.PlaceLaws as walk
use Rattle.scan.proofs.ByRule01 as scan
use Rattle.scan.proofs.AtEnd as ends
use Rattle.scan.proofs.Carries as carries
use Rattle.survey.proofs.Theorem as survey
use Rattle.survey.proofs.AsBefore as as_before
use Rattle.listed.proofs.Listed as listing
use Rattle.listed.proofs.Counted as counted
use Rattle.reading.proofs.Sheets as reading
use Rattle.built.proofs.Built as built-image
use Rattle.built.proofs.Answer as answer
use Rattle.worked_examples.proofs.Examples as worked
use Rattle.walk_record.proofs.Inverse as inverse
use Rattle.c_demands.proofs.CDemand as c

abbrev Bytes : List ℕ → Type 0
Bytes x = (i : ℕ) → get_or x i 0 < 256

-- THE CHECK accepts exactly the images that obey 01's rules, and its three numbers are then the tree's.
pub check-accepts : (image : List ℕ) → check_number (check image) ≡ 0 → Obeys image × (check_counts (check image) ≡ tree_counts (tree_of image))
check-accepts = verify.accepted_obeys

pub check-declines_no_other : (image : List ℕ) → Obeys image → (check_number (check image) ≡ 0) × (check_counts (check image) ≡ tree_counts (tree_of image))
check-declines_no_other = verify.obeys-accepted

-- Declined, its three numbers are zero.
pub check_declined : (image : List ℕ) → (check_number (check image) ≡ 0 → ⊥)
    → check_counts (check image) ≡ record { leaves = 0; value_slots = 0; sub_layers = 0 }
check_declined image = verify.declined-zero (check image)

-- THE KEYS of an image that obeys the rules, written down by the paper's layering, ascend strictly in plain byte order, and have at most 256
-- bytes each.
pub keys-ascend : (image : List ℕ) → Bytes image → Obeys image → Ascending (live_pairs image)
keys-ascend = layering.pairs-ascend

pub keys-short : (image : List ℕ) → Obeys image → All (λ (x : Pair). length x.key ≤ 256) (live_pairs image)
keys-short = layering.pairs-short

-- 02 [3]: their number, dead ones not counted, is the trailer's count: the length of the row from the empty key on.
pub count-is-row : (image : List ℕ) → Obeys image → key_count image ≡ length (row_of image From [] 0 [])
count-is-row = lives.count-is-row

-- DEMAND 3: every list of steps of either form, from every placing that is taken over every accepted image.
pub demand-3 : (image : List ℕ) → Bytes image → check_number (check image) ≡ 0 → (mode : StartMode) (cursor : List ℕ) → Bytes cursor
    → (kind : ℕ) (bound : List ℕ) → (place image mode cursor kind bound).declined ≡ None → (calls : List Call) → Lent image calls
    → Demand3 image mode cursor kind bound calls
demand-3 = demands.demand-3

-- The placings that are taken.
pub is-taken : (image : List ℕ) → check_number (check image) ≡ 0 → (mode : StartMode) (cursor : List ℕ) (kind : ℕ) (bound : List ℕ)
    → length cursor ≤ 256 → kind ≤ 2 → length bound ≤ 256 → (place image mode cursor kind bound).declined ≡ None
is-taken = demands.is-taken

-- The row: its keys lie past the start, and the bound admits them. Two images with the same live pairs have the same row, whatever their
-- shape.
pub row_admitted : (image : List ℕ) (mode : StartMode) (cursor : List ℕ) (kind : ℕ) (bound : List ℕ)
    → All (λ (x : Pair). past mode cursor x.key ≡ true) (row_of image mode cursor kind bound)
    × All (λ (x : Pair). contains kind bound x.key ≡ true) (row_of image mode cursor kind bound)
row_admitted = asked.row_admitted

pub same_row : (image other : List ℕ) → live_pairs image ≡ live_pairs other → (mode : StartMode) (cursor : List ℕ) (kind : ℕ) (bound : List ℕ)
    → row_of image mode cursor kind bound ≡ row_of other mode cursor kind bound
same_row = asked.same_row

-- 02 [4]: the bound test's answer is plain byte order's, whatever pieces the keys are compared in.
pub contains_by-order : (kind : ℕ) (bound key : List ℕ)
    → contains kind bound key ≡ pick (eqb kind 0) true (is_within (side_of kind (byte_order key bound)))
contains_by-order = bound.contains_by-order

-- 02 [12]: exactly at the included end is the key of an included bound, and no other.
pub at_end-own : (key : List ℕ) → at_end 1 key key ≡ true
at_end-own = bound.at_end-own

pub at_end_only : (kind : ℕ) (bound key : List ℕ) → at_end kind bound key ≡ true → (kind ≡ 1) × (key ≡ bound)
at_end_only = bound.at_end_only

-- A walk that hands out that key is ended there, any other walk that hands out a key is not; and its next call answers none with zero moves,
-- unless its count has passed the image's length (02 [13]). Over any bytes, of any walk whose buffer and stack have their lengths.
pub ended-at_end : (w : Walk) (image : List ℕ) → length w.cursor.buf ≡ 256 → length w.stack ≡ 31 → keys_of (step w image).answer ≡ 1
    → ((step w image).walk.state ≡ after_key (ends_with w (step w image)))
    × (ends_with w (step w image) ≡ true → w.handed.count < length image → step (step w image).walk image ≡ answered (Ok None) 0 (step w image).walk)
ended-at_end = ends.ended-at_end

-- Over an accepted image the answers of every list of steps are those of the machine that moved on past its end, and the moves up to the first
-- none are fewer exactly where the end is handed out.
pub stops-at_end : (image : List ℕ) → Bytes image → check_number (check image) ≡ 0 → (mode : StartMode) (cursor : List ℕ) → Bytes cursor
    → (kind : ℕ) (bound : List ℕ) → (place image mode cursor kind bound).declined ≡ None → (calls : List Call) → Lent image calls
    → (let w = (place image mode cursor kind bound).walk in StopsAtEnd kind bound (steps w calls) (steps_on w calls))
stops-at_end = at_end_lem.stops-at_end

-- 02 [13]: what a step carries of the keys that have been handed out, over any bytes and any walk: the answer what its walk does, zeros where it is
-- declined; the count is raised with a key and only then; the depth is that of the layer in which the walk stands behind its key.
pub step_carries : (w : Walk) (image : List ℕ) → Carries w (step w image)
step_carries = carries.step_carries

-- A walk that hands out a key where its count is the image's length, or above it, is declined with 21 next.
pub past-count : (w : Walk) (image : List ℕ) → keys_of (step w image).answer ≡ 1 → length image ≤ w.handed.count
    → step (step w image).walk image ≡ declined_with WalkRange (step w image).walk
past-count = carries.past-count

-- After every list of steps of either form from a fresh placing, over any image and any bytes that they are lent, the walk's count equals the
-- number of keys handed out.
pub count-is-keys : (image : List ℕ) (mode : StartMode) (cursor : List ℕ) (kind : ℕ) (bound : List ℕ) (calls : List Call)
    → (let w = (place image mode cursor kind bound).walk in (walk_after w calls).handed.count ≡ keys_out (steps w calls))
count-is-keys = handed.count-is-keys

-- Over an accepted image: what each step of a list carries, the depth of its key being that of the layer in which the tree holds it.
pub carried-due : (image : List ℕ) → Bytes image → check_number (check image) ≡ 0 → (mode : StartMode) (cursor : List ℕ) → Bytes cursor
    → (kind : ℕ) (bound : List ℕ) → (place image mode cursor kind bound).declined ≡ None → (calls : List Call) → Lent image calls
    → handed_by (steps (place image mode cursor kind bound).walk calls) ≡ due_handed image (own image calls) (row_of image mode cursor kind bound) nothing_yet
carried-due = handed.carried-due

-- The keys that have a depth are those of the live pairs, one by one, and each is found at its own.
pub depths_of-pairs : (image : List ℕ) → SameKeys (depths_n 0 [] (tree_of image)) (live_pairs image)
depths_of-pairs = depths.depths_of-pairs

pub live_depths : (image : List ℕ) → Bytes image → Obeys image → Has (depth_of image) (depths_n 0 [] (tree_of image))
live_depths image b o = depths.live_depths image (layering.pairs-ascend image b o)

-- 02 [1]: up to eight bytes a placing begins by 01's own rule, over every image.
pub placed_by_rule-01 : (image : List ℕ) (mode : StartMode) (cursor : List ℕ) (kind : ℕ) (bound : List ℕ)
    → placing image cursor kind bound ≡ Ok tt → length cursor ≤ 8 → ByRule01 mode (place image mode cursor kind bound).walk
placed_by_rule-01 = scan.placed_by_rule-01

-- 02 [6]: the short form is the placing in mode from, over every image and argument.
pub short-is_from : (image cursor : List ℕ) (kind : ℕ) (bound : List ℕ)
    → place_short image cursor kind bound ≡ place image From cursor kind bound
short-is_from = walk.short-is_from

-- THE TALLY: the check's number, else the placing's; and the length of the row above the cursor where both are 0, else 0.
pub tally-says : (image cursor : List ℕ) (kind : ℕ) (bound : List ℕ)
    → (tally_number (tally image cursor kind bound) ≡ pick (not (eqb (check_number (check image)) 0)) (check_number (check image)) (code_of (place image Above cursor kind bound)))
    × (tally_count (tally image cursor kind bound) ≡ pick (eqb (tally_number (tally image cursor kind bound)) 0) (length (row_of image Above cursor kind bound)) 0)
tally-says = survey.tally-says

-- 02 [6]: for all inputs it answers as before, numbers included, when its walk was that of a short form which meant above.
pub tally_as-before : (image : List ℕ) → Bytes image → (cursor : List ℕ) → Bytes cursor → (kind : ℕ) (bound : List ℕ)
    → tally image cursor kind bound ≡ tally01 image cursor kind bound
tally_as-before = as_before.tally_as-before

-- THE SHEET: of any bytes, all lines together, however many more are asked for.
pub all_lines : (image : List ℕ) → Bytes image → (more : ℕ) → AllLines image more
all_lines = listing.all_lines

-- 02 [3]: the count in the first line of an accepted image's sheet is that of its pairs, one line each, and these are all the live ones.
pub count-is-lines : (image : List ℕ) → check_number (check image) ≡ 0
    → (listed image ≡ sheet (length (listed_pairs image)) (listed_pairs image) (walk_moves image)) × (listed_pairs image ≡ live_pairs image)
count-is-lines = counted.count-is-lines

-- 02 [2]: THE READER OF SHEETS is the inverse of what a sheet is: what is read has just that text; every good sheet, read, is that sheet, or 32 where
-- its keys do not rise; and where it says 31 no good sheet has the text.
pub read-text : (s : List ℕ) (x : Sheet) → read_sheet s ≡ Ok x → (s ≡ text x) × Good x × (keys_rise x.pairs ≡ true)
read-text s x e = let r = reading.read-text s x e in (r.text, r.good, r.rise)

pub text_read : (x : Sheet) → Good x → read_sheet (text x) ≡ judged x
text_read = reading.text_read

pub no-sheet : (s : List ℕ) → read_sheet s ≡ Err SheetForm → (x : Sheet) → Good x → s ≡ text x → ⊥
no-sheet = reading.no-sheet

-- 02 [2]: THE BUILDER. Where its number is 0 the sheet was taken, and the image of its pairs stands at the front of the output: it holds the
-- sheet's pairs (built/specs/Built.antt `Holds`); else nothing is written. So for every sheet that is taken.
pub build_writes : (s out : List ℕ) → built_number (built s (length out)) ≡ 0 → (x : Sheet) × Writes s out x
build_writes = answer.build_writes

pub build-declines : (s out : List ℕ) → (built_number (built s (length out)) ≡ 0 → ⊥) → (built_length (built s (length out)) ≡ 0) × (built_out s out ≡ out)
build-declines = answer.build-declines

pub taken-sheet : (s : List ℕ) (x : Sheet) → read_sheet s ≡ Ok x → length (build x.pairs) ≤ 16777216 → Taken s x
taken-sheet = built-image.taken-sheet

-- For every accepted image: the image built from its live pairs, where it fits, holds the same pairs.
pub rebuilt : (image : List ℕ) → Bytes image → check_number (check image) ≡ 0 → length (build (live_pairs image)) ≤ 16777216 → Rebuilt image
rebuilt = built-image.rebuilt

-- THE EXAMPLES P1 to P12, with the check's answers for their images.
pub examples : map machine_says table ≡ map paper_says table
examples = worked.examples

-- THE C INTERFACE: a walk and its record are each read back from the other; and demand 3 of every list of `pb_step` calls on a record that
-- `pb_place_above` or `pb_place_from` filled.
pub record_inverse : (w : Walk) → inverse.Arrays w
    → (is_record (numbers_of w) w.cursor.buf w.bound.key ≡ true) × (read_walk (numbers_of w) w.cursor.buf w.bound.key ≡ w)
record_inverse = inverse.record_inverse

pub walk_inverse : (numbers buf bound : List ℕ) → is_record numbers buf bound ≡ true
    → (numbers_of (read_walk numbers buf bound) ≡ numbers) × ((read_walk numbers buf bound).cursor.buf ≡ buf) × ((read_walk numbers buf bound).bound.key ≡ bound)
walk_inverse = inverse.walk_inverse

pub c-demand-3 : (image : List ℕ) → Bytes image → check_number (check image) ≡ 0 → (mode : StartMode) (cursor : List ℕ) → Bytes cursor
    → (kind : ℕ) (key numbers buf bound numbers' buf' bound' : List ℕ)
    → PutPlaced (place image mode cursor kind key) numbers buf bound 0 numbers' buf' bound'
    → (calls : List CCall) → CLent image calls → CDemand3 image mode cursor kind key numbers' buf' bound' calls
c-demand-3 = c.c-demand-3

-- 02 [13]: what these calls carry.
pub c-carried-due : (image : List ℕ) → Bytes image → check_number (check image) ≡ 0 → (mode : StartMode) (cursor : List ℕ) → Bytes cursor
    → (kind : ℕ) (key numbers buf bound numbers' buf' bound' : List ℕ)
    → PutPlaced (place image mode cursor kind key) numbers buf bound 0 numbers' buf' bound' → (calls : List CCall) → CLent image calls
    → c_handed (c_steps numbers' buf' bound' calls) ≡ due_handed image (made image calls) (row_of image mode cursor kind key) nothing_yet
c-carried-due = c.c-carried-due

-- The placings that are taken, into a record of a record's lengths.
pub is_placed : (image : List ℕ) → check_number (check image) ≡ 0 → (mode : StartMode) (cursor : List ℕ) (kind : ℕ) (key numbers buf bound : List ℕ)
    → fitting numbers buf bound ≡ true → length cursor ≤ 256 → kind ≤ 2 → length key ≤ 256
    → placed_number (place image mode cursor kind key) numbers buf bound ≡ 0
is_placed = c.is_placed
