-- THE TOP LAYER: it is given all pairs of a sheet, with their whole keys.
use Rattle.std.specs.Prelude.{◌≡◌, ◌≤◌, Ok}
use Rattle.base.specs.Kit.{sym, ap, subst, ◌∙◌, List, ℕ, arith, length, drop, map-id}
use Rattle.key.proofs.Bytes.{bytes_of}
use Rattle.layering.specs.Keys.{Pair}
use Rattle.layering.specs.Ascending.{All, Ascending}
use Rattle.layering.proofs.Row.{all_map}
use Rattle.reading.specs.Form.{Sheet}
use Rattle.reading.specs.Good.{GoodPair}
use Rattle.reading.specs.Pairs.{pairs_in}
use Rattle.reading.specs.Fault.{read_sheet}
use Rattle.reading.specs.Opened.{opened}
use Rattle.reading.specs.declared.Opened.{Opened}
use Rattle.reading.proofs.Pairs.{opened-sheet}
use Rattle.reading.proofs.Sheets.{read-text}
use Rattle.reading.proofs.Rising.{rise_ascending}
use Rattle.building.specs.CodeGood.{Good}
use Rattle.building.proofs.Groups.{all_both}
use Rattle.building.proofs.Theorem.{Fine}
use Rattle.groups.specs.CodeGroups.{lowered, lines_at, Fit}

pub lines_top : (s : List ℕ) (line n : ℕ) → lines_at s 0 line n ≡ pairs_in n (drop line s)
unfolding lines_at lowered
lines_top s line n = map-id (pairs_in n (drop line s))

-- What is known of a sheet that was read.
pub record TopFit (s : List ℕ) (r : Opened) (x : Sheet) : Type 0 where
  pub is : read_sheet s ≡ Ok x
  pub count : r.count ≡ length x.pairs
  pub pairs : lines_at s 0 r.line r.count ≡ x.pairs
  pub ascend : Ascending x.pairs
  pub fine : All Fine x.pairs
  pub fit : Fit s 31 r.line r.count

pub top-fit : (s : List ℕ) (r : Opened) → Ok r ≡ opened (read_sheet s) → (x : Sheet) × TopFit s r x
top-fit s r e =
    let o = opened-sheet s r e in
    let x : Sheet = o.0 in
    let d = read-text s x o.1.is in
    let a = rise_ascending x.pairs d.rise in
    let p : lines_at s 0 r.line r.count ≡ x.pairs = lines_top s r.line r.count ∙ o.1.pairs in
    let f : All Fine x.pairs =
    all_both GoodPair (λ (y : Pair). length y.key ≤ 256) Fine (λ y g h. record { bytes = bytes_of y.key g.bytes; short = h; value = g.small })
    x.pairs d.good.pairs a.1 in (
      x,
      record {
        is = o.1.is;
        count = o.1.count;
        pairs = p;
        ascend = a.0;
        fine = f;
        fit = record {
          deep = omega arith;
          lines = record { inside = o.1.line; whole = ap length o.1.pairs ∙ sym o.1.count };
          ascend = subst Ascending (sym p) a.0;
          good =
              subst (All (Good 32 0)) (sym p)
              (all_map Fine (Good 32 0) (λ y g. record { bytes = g.bytes; short = g.short; value = g.value; some = λ h. absurd (omega arith) }) x.pairs f);
        };
      },
    )
