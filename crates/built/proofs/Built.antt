-- THE THEOREMS of 02 [2] about the definition.
use Rattle.std.specs.Prelude.{◌≡◌, ◌∷◌, ◌+◌, ◌*◌, ◌≤◌, ◌<◌, Ok}
use Rattle.base.specs.Kit.{ap, ◌∙◌, List, [], ℕ, arith, length, get_or}
use Rattle.cursor.specs.declared.range_bound.StartMode.TheVariants.{From}
use Rattle.key.proofs.Bytes.{bytes_of}
use Rattle.layering.specs.Keys.{Pair, leaves_n, layers_n, live_pairs}
use Rattle.layering.specs.Ascending.{All, Ascending}
use Rattle.layering.specs.Sieve.{row_of}
use Rattle.layering.proofs.Asked.{same_row}
use Rattle.layering.proofs.Lives.{whole_row}
use Rattle.layering.proofs.Pairs.{pairs-ascend}
use Rattle.verify.specs.Check.{check_number, check}
use Rattle.verify.proofs.Theorem.{accepted_obeys}
use Rattle.walk.specs.Placing.{place}
use Rattle.demands.specs.Demand.{Call, steps, Lent, said, moves_of, own, due, Demand3}
use Rattle.demands.proofs.Demand.{demand-3, is-taken}
use Rattle.listed.specs.Listed.{walk_moves, listed}
use Rattle.reading.specs.Form.{Sheet, text}
use Rattle.reading.specs.Good.{GoodPair}
use Rattle.reading.specs.Fault.{read_sheet}
use Rattle.reading.proofs.Sheets.{read-text}
use Rattle.reading.proofs.Rising.{rise_ascending}
use Rattle.building.specs.Shape.{shape}
use Rattle.building.specs.Build.{build}
use Rattle.building.proofs.Theorem.{Fine, build-pairs, build-bytes, build-accepted}
use Rattle.built.specs.Built.{sheet_of, Holds, Taken, Rebuilt}
use Rattle.built.proofs.Live.{live_fine}
use Rattle.built.proofs.Listed.{listed-text, listed-reads}

-- OF ASCENDING PAIRS whose image fits
module _ (ps : List Pair) (asc : Ascending ps) (fine : All Fine ps) (short : length (build ps) ≤ 16777216) where
  pairs : live_pairs (build ps) ≡ ps
  pairs = build-pairs ps asc fine short

  bytes : (i : ℕ) → get_or (build ps) i 0 < 256
  bytes = build-bytes ps asc fine short

  accepted : check_number (check (build ps)) ≡ 0
  accepted = (build-accepted ps asc fine short).0

  -- THE WALK from "" on, unbounded
  pub build-row : row_of (build ps) From [] 0 [] ≡ ps
  build-row = whole_row (build ps) [] ∙ pairs

  demands : (calls : List Call) → Lent (build ps) calls → Demand3 (build ps) From [] 0 [] calls
  demands calls l =
      demand-3 (build ps) bytes accepted From [] (λ i. omega arith) 0 []
      (is-taken (build ps) accepted From [] 0 [] (omega arith) (omega arith) (omega arith)) calls l

  pub build-walk : (calls : List Call) → Lent (build ps) calls
      → said (steps (place (build ps) From [] 0 []).walk calls) ≡ due (own (build ps) calls) ps
  build-walk calls l = (demands calls l).says ∙ ap (due (own (build ps) calls)) build-row

  pub build-moves : (calls : List Call) → Lent (build ps) calls
      → moves_of (steps (place (build ps) From [] 0 []).walk calls) ≤ leaves_n (shape ps) + length ps + 4 * layers_n (shape ps) + 2
  build-moves calls l = rw (build-accepted ps asc fine short).1 at (demands calls l).total

  -- THE SHEET of the image
  says : sheet_of (build ps) ≡ record { pairs = ps; figure = walk_moves (build ps) }
  unfolding sheet_of
  says = rw pairs

  pub build-listed : listed (build ps) ≡ text (record { pairs = ps; figure = walk_moves (build ps) })
  build-listed = listed-text (build ps) accepted ∙ ap text says

  pub build-reads : read_sheet (listed (build ps)) ≡ Ok (record { pairs = ps; figure = walk_moves (build ps) })
  build-reads = listed-reads (build ps) accepted bytes ∙ ap Ok says

  pub build-holds : Holds (build ps) ps
  build-holds = record {
    bytes = bytes;
    accepted = accepted;
    counts = (build-accepted ps asc fine short).1;
    pairs = pairs;
    row = build-row;
    walk = build-walk;
    moves = build-moves;
    lines = build-listed;
    reads = build-reads;
  }

-- THE SHEETS THAT ARE TAKEN
sheet_fine : (l : List Pair) → All GoodPair l → All (λ (x : Pair). length x.key ≤ 256) l → All Fine l
sheet_fine [] g s = tt
sheet_fine (x ∷ l) g s = (
  record { bytes = bytes_of x.key g.0.bytes; short = s.0; value = g.0.small },
  sheet_fine l g.1 s.1,
)

pub taken-sheet : (s : List ℕ) (x : Sheet) → read_sheet s ≡ Ok x → length (build x.pairs) ≤ 16777216 → Taken s x
taken-sheet s x r short =
    let t = read-text s x r in
    let a = rise_ascending x.pairs t.rise in
    record {
      lines = t.text;
      holds = build-holds x.pairs a.0 (sheet_fine x.pairs t.good.pairs a.1) short;
    }

-- THE IMAGES BUILT ANEW
pub rebuilt : (image : List ℕ) → ((i : ℕ) → get_or image i 0 < 256) → check_number (check image) ≡ 0
    → length (build (live_pairs image)) ≤ 16777216 → Rebuilt image
rebuilt image b a short =
    let o = (accepted_obeys image a).0 in
    let h = build-holds (live_pairs image) (pairs-ascend image b o) (live_fine image b o) short in
    record {
      reads = listed-reads image a b;
      holds = h;
      rows = same_row (build (live_pairs image)) image h.pairs;
    }
