-- WHAT 02 [2] PROMISES of the image that is built from a sheet: "The check accepts the result, and walking from "" gives the sheet's pairs."
use Rattle.std.specs.Prelude.{◌≡◌, ◌+◌, ◌*◌, ◌≤◌, ◌<◌, Ok}
use Rattle.base.specs.Kit.{List, [], ℕ, length, get_or}
use Rattle.cursor.specs.declared.range_bound.StartMode.{StartMode}
use Rattle.cursor.specs.declared.range_bound.StartMode.TheVariants.{From}
use Rattle.layering.specs.Keys.{Pair, leaves_n, layers_n, live_pairs}
use Rattle.layering.specs.Sieve.{row_of}
use Rattle.verify.specs.Check.{check_number, check_counts, check}
use Rattle.walk.specs.Placing.{place}
use Rattle.demands.specs.Demand.{Call, steps, Lent, said, moves_of, own, due}
use Rattle.listed.specs.Listed.{walk_moves, listed}
use Rattle.reading.specs.Form.{Sheet, text}
use Rattle.reading.specs.Fault.{read_sheet}
use Rattle.building.specs.Shape.{shape}
use Rattle.building.specs.Build.{build}
use Rattle.building.specs.CodeWritten.{put}
use Rattle.builder.specs.Answer.{built, built_out, built_length}

-- What the sheet of an accepted image says: its live pairs, and its walk's moves on the end line.
unfoldable pub sheet_of : List ℕ → Sheet
sheet_of image = record { pairs = live_pairs image; figure = walk_moves image }

-- THE IMAGE HOLDS THE PAIRS ps.
pub record Holds (image : List ℕ) (ps : List Pair) : Type 0 where
  -- it has bytes only, and the check accepts it, with the leaves and the sub-layers of the fixed shape and a value slot for each pair
  pub bytes : (i : ℕ) → get_or image i 0 < 256
  pub accepted : check_number (check image) ≡ 0
  pub counts : check_counts (check image) ≡ record { leaves = leaves_n (shape ps); value_slots = length ps; sub_layers = layers_n (shape ps) }
  -- its live pairs are these, and so is the row from "" on
  pub pairs : live_pairs image ≡ ps
  pub row : row_of image From [] 0 [] ≡ ps
  -- every list of steps of either form from "" on hands out these and then none, with no more moves than demand 3 allows
  pub walk : (calls : List Call) → Lent image calls → said (steps (place image From [] 0 []).walk calls) ≡ due (own image calls) ps
  pub moves : (calls : List Call) → Lent image calls
      → moves_of (steps (place image From [] 0 []).walk calls) ≤ leaves_n (shape ps) + length ps + 4 * layers_n (shape ps) + 2
  -- its sheet has a station line for each of these and their count, with its own walk's moves on the end line; and is read as that
  pub lines : listed image ≡ text (record { pairs = ps; figure = walk_moves image })
  pub reads : read_sheet (listed image) ≡ Ok (record { pairs = ps; figure = walk_moves image })

-- A SHEET THAT IS TAKEN: s is the text of x, and the image built from its pairs holds these. So the image's sheet has the lines of s, but
-- for the figure on the end line, which "is read and not used".
pub record Taken (s : List ℕ) (x : Sheet) : Type 0 where
  pub lines : s ≡ text x
  pub holds : Holds (build x.pairs) x.pairs

-- AN IMAGE BUILT ANEW from the live pairs of another, which are those of its sheet: it holds them, and a walk over either hands out the same
-- from every start to every bound.
pub record Rebuilt (image : List ℕ) : Type 0 where
  pub reads : read_sheet (listed image) ≡ Ok (sheet_of image)
  pub holds : Holds (build (live_pairs image)) (live_pairs image)
  pub rows : (mode : StartMode) (cursor : List ℕ) (kind : ℕ) (bound : List ℕ)
      → row_of (build (live_pairs image)) mode cursor kind bound ≡ row_of image mode cursor kind bound

-- WHAT `build` WRITES of a sheet that it takes, into the output `out`: the image, and behind it what stood there.
pub record Writes (s out : List ℕ) (x : Sheet) : Type 0 where
  pub is : read_sheet s ≡ Ok x
  pub taken : Taken s x
  pub length-is : built_length (built s (length out)) ≡ length (build x.pairs)
  pub output : built_out s out ≡ put out 0 (build x.pairs)
