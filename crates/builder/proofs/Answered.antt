-- THE ANSWER, number by number: a sheet that is declined; an image that is too long, or longer than the output; and one that is written.
use Rattle.std.specs.Prelude.{◌≡◌, ◌++◌, ◌+◌, ◌≤◌, ◌<◌, Result, Ok, Err}
use Rattle.base.specs.Kit.{true, false, and-false, refl, ap, sym, ◌∙◌, List, ℕ, min, arith, leb, length, drop, le-leb, lt-leb, dec_le, take-length}
use Rattle.base.specs.Pick.{pick}
use Rattle.base.specs.declared.Decline.{Decline}
use Rattle.base.specs.declared.Decline.TheVariants.{ImageRoom}
use Rattle.layering.specs.Keys.{Pair}
use Rattle.layering.specs.Accepted.{end_n}
use Rattle.reading.specs.Form.{Sheet}
use Rattle.reading.specs.Pairs.{pairs_in}
use Rattle.reading.specs.Fault.{read_sheet}
use Rattle.reading.specs.Opened.{opened}
use Rattle.reading.specs.declared.Opened.{Opened}
use Rattle.reading.proofs.Pairs.{opened-declined}
use Rattle.building.specs.Shape.{layer_of, shape}
use Rattle.building.specs.Build.{build}
use Rattle.building.specs.CodeWritten.{put}
use Rattle.building.proofs.Theorem.{ends}
use Rattle.building.proofs.Sizes.{shift_n}
use Rattle.groups.specs.CodeGroups.{lines_at}
use Rattle.groups.specs.CodeSize.{capped}
use Rattle.groups.proofs.TopLayer.{lines_top, TopFit, top-fit}
use Rattle.builder.specs.Answer.{fits, answered, out_after, built, built_out}
use Rattle.builder.proofs.Image.{image-length}

-- what is written at the front of the output, and what stands behind it
put_front : (out b : List ℕ) → b ++ drop (length b) out ≡ put out 0 b
put_front out b = let e : 0 + length b ≡ length b = omega arith in rw (take-length b, e) refl

-- What the function says: its answer and the output afterwards.
abbrev pub Says : List ℕ → List ℕ → Result ℕ Decline → List ℕ → Type 0
Says s out r out' = (r ≡ built s (length out)) × (out' ≡ built_out s out)

-- THE SHEET IS DECLINED
pub sheet_declined : (s out : List ℕ) (d : Decline) → Err d ≡ opened (read_sheet s) → Says s out (Err d) out
unfolding built built_out answered out_after
sheet_declined s out d e =
    let h : read_sheet s ≡ Err d = opened-declined (read_sheet s) d e in
    (rw h refl, rw h refl)

-- THE SHEET IS TAKEN
module _ (s : List ℕ) (o : Opened) (e : Ok o ≡ opened (read_sheet s)) where
  abbrev x : Sheet
  x = (top-fit s o e).0

  abbrev pub taken : TopFit s o x
  taken = (top-fit s o e).1

  same : pairs_in o.count (drop o.line s) ≡ x.pairs
  same = sym (lines_top s o.line o.count) ∙ taken.pairs

  module _ (out : List ℕ) where
    not_written : fits (length (build x.pairs)) (length out) ≡ false → Says s out (Err ImageRoom) out
    unfolding built built_out answered out_after pick
    not_written f = (rw (taken.is, f) refl, rw (taken.is, f) refl)

    written : fits (length (build x.pairs)) (length out) ≡ true → Says s out (Ok (length (build x.pairs))) (put out 0 (build x.pairs))
    unfolding built built_out answered out_after pick
    written f = (rw (taken.is, f) refl, rw (taken.is, f) refl)

  module _ (size : ℕ) (k : size ≡ capped (end_n 0 (layer_of 32 (lines_at s 0 o.line o.count)))) where
    counted : size ≡ min (end_n 0 (shape x.pairs)) 16777217
    unfolding capped shape
    counted = k ∙ rw taken.pairs refl

    pub size-bound : size ≤ 16777217
    size-bound = omega (arith, counted)

    over : 16777176 < size → 16777216 < length (build x.pairs)
    over h = go (dec_le (length (build x.pairs)) 16777216)
      where
        go : Dec (length (build x.pairs) ≤ 16777216) → 16777216 < length (build x.pairs)
        go (yes l) = absurd (omega (arith, ends x.pairs taken.ascend taken.fine l, shift_n (shape x.pairs) 8, counted))
        go (no l) = omega arith

    pub too_long : 16777176 < size → (out : List ℕ) → Says s out (Err ImageRoom) out
    unfolding fits
    too_long h out = not_written out (rw (lt-leb (length (build x.pairs)) 16777216 (over h)) (and-false (leb (length (build x.pairs)) (length out))))

    module _ (h : size ≤ 16777176) where
      pub long : end_n 8 (shape (pairs_in o.count (drop o.line s))) + 32 ≡ size + 40
      long = rw same (omega (arith, shift_n (shape x.pairs) 8, counted))

      image-long : length (build x.pairs) ≡ size + 40
      image-long = ap (λ (l : List Pair). length (build l)) (sym same) ∙ image-length s o.line o.count taken.fit (omega (arith, long)) ∙ long

      pub too_short : (out : List ℕ) → length out < size + 40 → Says s out (Err ImageRoom) out
      unfolding fits
      too_short out l = not_written out (rw (lt-leb (length (build x.pairs)) (length out) (omega (arith, image-long))) refl)

      pub image-written : (out part : List ℕ) → size + 40 ≤ length out → part ≡ build (pairs_in o.count (drop o.line s))
          → Says s out (Ok (size + 40)) (part ++ drop (size + 40) out)
      unfolding fits
      image-written out part l p =
          let n = image-long in
          let w = written out (rw (le-leb (length (build x.pairs)) (length out) (omega (arith, n)), le-leb (length (build x.pairs)) 16777216 (omega (arith, n))) refl) in
          let b : part ≡ build x.pairs = p ∙ ap build same in
          (ap Ok (sym n) ∙ w.0, rw (b, ← n) (put_front out (build x.pairs) ∙ w.1))

-- what `build` rests on
pub ruleset build_rules = (size-bound)
