-- The loop over rows of names: its invariant, and what a turn says of it.
use Rattle.std.specs.Prelude.{◌≡◌, ◌+◌, ◌/◌, ◌≤◌, ◌<◌, ◌++◌}
use Rattle.std.proofs.Math.Nat.{add-div_left}
use Rattle.std.proofs.Math.Seq.{drop-append_seam}
use Rattle.base.specs.Kit.{◌∙◌, ap, Bool, List, ℕ, suc, add-one, div-zero, div-eq_of_lt, zero-add, arith, length, length-append, take-append_seam, bool_byte}
use Rattle.base.proofs.Choice.{one_by_test, one_at_most}
use Rattle.cursor.specs.RangeBound.{contains}
use Rattle.bench_loops.specs.CodeCounting.{rows_within}

module _ (width kind : ℕ) (bound names : List ℕ) where
  -- THE INVARIANT, where so many bytes are left: what is counted and what is left to count are all, and no more than there are rows.
  abbrev pub Rows : ℕ → List ℕ → Type 0
  Rows count rest =
      (count + length rest / width ≤ length names / width)
      × (count + rows_within (length rest / width) width kind bound rest ≡ rows_within (length names / width) width kind bound names)

  -- it holds at the start
  pub begins : (rest : List ℕ) → rest ≡ names → Rows 0 rest
  begins rest e = rw e (omega arith, zero-add _)

  module _ (count : ℕ) (rest x after : List ℕ) (inv : Rows count rest) (e : rest ≡ x ++ after) (l : length x ≡ width) (w : 0 < width) where
    -- one row fewer is left
    fewer : length rest / width ≡ suc (length after / width)
    fewer = ap (λ (q : List ℕ). length q / width) e ∙ (rw (length-append x after, l) (add-div_left (length after) w ∙ add-one _))

    -- a turn
    pub counts-on : (r : Bool) → r ≡ contains kind bound x → Rows (count + bool_byte r) after
    unfolding rows_within
    counts-on r f =
        let more : rows_within (length rest / width) width kind bound rest
        ≡ bool_byte r + rows_within (length after / width) width kind bound after =
        rw (fewer, e, ← l, take-append_seam x after, drop-append_seam x after, ← f, one_by_test r) in (
          omega (arith, inv.0, fewer, one_by_test r, one_at_most r),
          omega (arith, inv.1, more),
        )

  -- no row is left
  pub all-counted : (count : ℕ) (rest : List ℕ) → Rows count rest → length rest < width → count ≡ rows_within (length names / width) width kind bound names
  unfolding rows_within
  all-counted count rest inv h =
      let e = div-eq_of_lt h in
      omega (arith, inv.1, ap (λ (n : ℕ). rows_within n width kind bound rest) e)

  -- a row without bytes is none
  pub no_rows : (n : ℕ) → width ≡ 0 → 0 ≡ rows_within (n / width) width kind bound names
  unfolding rows_within
  no_rows n e = rw (e, div-zero n)
