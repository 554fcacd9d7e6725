-- THE SHEET OF AN ACCEPTED IMAGE says its live pairs and its walk's moves, and is read as that.
use Rattle.std.specs.Prelude.{◌≡◌, ◌+◌, ◌^◌, ◌<◌, Ok}
use Rattle.base.specs.Kit.{ap, ◌∙◌, List, [], ℕ, arith, length, get_or}
use Rattle.base.specs.Pick.{pick}
use Rattle.cursor.specs.declared.range_bound.StartMode.TheVariants.{From}
use Rattle.layering.specs.Keys.{Pair, live_pairs}
use Rattle.layering.proofs.Few.{row_fits}
use Rattle.layering.proofs.Lives.{whole_row}
use Rattle.layering.proofs.Size.{moves-fit}
use Rattle.layering.proofs.Pairs.{pairs-ascend}
use Rattle.layering.proofs.Row.{all_map}
use Rattle.verify.specs.Check.{check_number, check}
use Rattle.verify.specs.Acceptance.{tree_counts}
use Rattle.verify.proofs.Theorem.{accepted_obeys}
use Rattle.demands.specs.Demand.{calls_of}
use Rattle.demands.proofs.Calls.{own-lent}
use Rattle.demands.proofs.Demand.{demand-3, is-taken}
use Rattle.sheet.specs.Sheet as listing
use Rattle.listed.specs.Listed.{listed_pairs, walk_moves, listed}
use Rattle.listed.proofs.Counted.{count-is-lines}
use Rattle.reading.specs.Form.{text}
use Rattle.reading.specs.Good.{GoodPair, Good}
use Rattle.reading.specs.Fault.{judged, read_sheet}
use Rattle.reading.proofs.Sheets.{text_read}
use Rattle.building.proofs.ByteLaws.{bytes-at}
use Rattle.building.proofs.Theorem.{Fine}
use Rattle.built.specs.Built.{sheet_of}
use Rattle.built.proofs.Live.{live_fine, fine_rise}

module _ (image : List ℕ) (a : check_number (check image) ≡ 0) where
  pub listed-text : listed image ≡ text (sheet_of image)
  unfolding text sheet_of
  listed-text =
      let c = count-is-lines image a in
      c.0 ∙ ap (λ (l : List Pair). listing.sheet (length l) l (walk_moves image)) c.1

  module _ (b : (i : ℕ) → get_or image i 0 < 256) where
    -- the walk's moves are fewer than the image has bytes
    moves-small : walk_moves image < 2 ^ 64
    unfolding walk_moves tree_counts
    moves-small =
        let o = accepted_obeys image a in
        let n = length (listed_pairs image) + 1 in
        let taken = is-taken image a From [] 0 [] (omega arith) (omega arith) (omega arith) in
        let d = demand-3 image b a From [] (λ i. omega arith) 0 [] taken (calls_of image n) (own-lent image n) in
        omega (arith, rw o.1 at d.total, moves-fit image o.0, o.0.short)

    -- it has a text
    pub sheet-good : Good (sheet_of image)
    unfolding sheet_of
    sheet-good =
        let o = (accepted_obeys image a).0 in
        record {
          pairs = all_map Fine GoodPair (λ x f. record { bytes = bytes-at x.key f.bytes; small = f.value }) (live_pairs image) (live_fine image b o);
          count = omega (arith, row_fits image o From [] 0 [], ap (λ (l : List Pair). length l) (whole_row image []), o.short);
          figure = moves-small;
        }

    pub listed-reads : read_sheet (listed image) ≡ Ok (sheet_of image)
    unfolding judged pick sheet_of
    listed-reads =
        let o = (accepted_obeys image a).0 in
        ap read_sheet listed-text ∙ text_read (sheet_of image) sheet-good
        ∙ rw (fine_rise (live_pairs image) (pairs-ascend image b o) (live_fine image b o))
