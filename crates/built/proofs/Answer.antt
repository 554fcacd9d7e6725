-- WHAT `build` WRITES: where its number is 0 the sheet was taken, and the image of its pairs stands at the front of the output, which keeps
-- the bytes behind it; else nothing is written, and the length is 0.
use Rattle.std.specs.Prelude.{◌&&◌, ◌≡◌, ◌≤◌, Result, Ok, Err}
use Rattle.base.specs.Kit.{Bool, true, false, true≢false, refl, ap, sym, ◌∙◌, List, ℕ, leb, length, leb-true, arith}
use Rattle.base.specs.Pick.{pick}
use Rattle.base.specs.declared.Decline.{Decline}
use Rattle.base.specs.declared.Decline.TheVariants.{ImageRoom}
use Rattle.base.proofs.Declines.{never-zero}
use Rattle.reading.specs.Form.{Sheet}
use Rattle.reading.specs.Fault.{read_sheet}
use Rattle.building.specs.Build.{build}
use Rattle.building.specs.CodeWritten.{put}
use Rattle.builder.specs.Answer.{fits, answered, out_after, built, built_out, built_number, built_length}
use Rattle.built.specs.Built.{Writes}
use Rattle.built.proofs.Built.{taken-sheet}

-- a sheet that is taken, by whether its image fits
module _ (x : Sheet) (out : List ℕ) where
  both : (a b : Bool) → (a && b) ≡ true → (a ≡ true) × (b ≡ true)
  both true true e = (refl, refl)
  both true false e = absurd (true≢false (sym e))
  both false b e = absurd (true≢false (sym e))

  fit : (t : Bool) → fits (length (build x.pairs)) (length out) ≡ t → built_number (answered (Ok x) (length out)) ≡ 0 → t ≡ true
  unfolding answered pick built_number
  fit true e z = refl
  fit false e z = let k : ◌≡◌ {A = ℕ} 33 0 = rw e at z in absurd (omega arith)

  written : fits (length (build x.pairs)) (length out) ≡ true
      → (length (build x.pairs) ≤ 16777216) × (built_length (answered (Ok x) (length out)) ≡ length (build x.pairs)) × (out_after (Ok x) out ≡ put out 0 (build x.pairs))
  unfolding answered out_after pick built_length fits
  written e = (
    leb-true (length (build x.pairs)) 16777216 (both (leb (length (build x.pairs)) (length out)) (leb (length (build x.pairs)) 16777216) e).1,
    rw e refl,
    rw e refl,
  )

writes : (s out : List ℕ) (a : Result Sheet Decline) → read_sheet s ≡ a → built_number (answered a (length out)) ≡ 0 → (x : Sheet) × Writes s out x
unfolding answered built_number built built_out
writes s out (Err d) e z = absurd (never-zero d z)
writes s out (Ok x) e z =
    let f = fit x out (fits (length (build x.pairs)) (length out)) refl z in
    let w = written x out f in
    (x, record { is = e; taken = taken-sheet s x e w.0; length-is = ap (λ (a : Result Sheet Decline). built_length (answered a (length out))) e ∙ w.1; output = ap (λ (a : Result Sheet Decline). out_after a out) e ∙ w.2 })

pub build_writes : (s out : List ℕ) → built_number (built s (length out)) ≡ 0 → (x : Sheet) × Writes s out x
unfolding built built_out
build_writes s out z = writes s out (read_sheet s) refl z

declines : (a : Result Sheet Decline) (out : List ℕ) → (built_number (answered a (length out)) ≡ 0 → ⊥) → (built_length (answered a (length out)) ≡ 0) × (out_after a out ≡ out)
unfolding answered out_after built_number built_length pick
declines (Err d) out z = (refl, refl)
declines (Ok x) out z = go (fits (length (build x.pairs)) (length out)) refl z
  where
    go : (t : Bool) → fits (length (build x.pairs)) (length out) ≡ t
        → (built_number (pick t (Ok (length (build x.pairs))) (Err ImageRoom)) ≡ 0 → ⊥)
        → (built_length (pick t (Ok (length (build x.pairs))) (Err ImageRoom)) ≡ 0) × (pick t (put out 0 (build x.pairs)) out ≡ out)
    go true e z = absurd (z refl)
    go false e z = (refl, refl)

pub build-declines : (s out : List ℕ) → (built_number (built s (length out)) ≡ 0 → ⊥) → (built_length (built s (length out)) ≡ 0) × (built_out s out ≡ out)
unfolding built built_out
build-declines s out z = declines (read_sheet s) out z
