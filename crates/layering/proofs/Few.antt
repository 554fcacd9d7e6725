-- A row has no more pairs than its image has bytes: every pair is of a live value slot, and those fit.
use Rattle.std.specs.Prelude.{◌∷◌, ◌≤◌}
use Rattle.base.specs.Kit.{Bool, List, [], ℕ, arith, length}
use Rattle.base.proofs.Choice.{pick_ind}
use Rattle.cursor.specs.RangeBound.{contains}
use Rattle.cursor.specs.declared.range_bound.StartMode.{StartMode}
use Rattle.layering.specs.Tree.{tree_of}
use Rattle.layering.specs.Keys.{Pair, live_pairs}
use Rattle.layering.specs.Accepted.{Obeys}
use Rattle.layering.specs.Sieve.{sieve, past, row_of}
use Rattle.layering.proofs.Size.{moves-fit}
use Rattle.layering.proofs.Lives.{lives_few_n, pairs-lives_n}

-- a part of a list is no more
few-sieve : (t : List ℕ → Bool) (l : List Pair) → length (sieve t l) ≤ length l
unfolding sieve
few-sieve t [] = omega arith
few-sieve t (x ∷ l) =
    let rest = few-sieve t l in
    pick_ind (λ (r : List Pair). length r ≤ length (x ∷ l)) (t x.key) (λ e. omega arith) (λ e. omega arith)

pub row_fits : (image : List ℕ) → Obeys image → (mode : StartMode) (cursor : List ℕ) (kind : ℕ) (bound : List ℕ)
    → length (row_of image mode cursor kind bound) ≤ length image
unfolding row_of live_pairs
row_fits image o mode cursor kind bound =
    let begun = sieve (past mode cursor) (live_pairs image) in
    omega (
      arith,
      few-sieve (contains kind bound) begun,
      few-sieve (past mode cursor) (live_pairs image),
      pairs-lives_n (tree_of image) [],
      lives_few_n (tree_of image),
      moves-fit image o,
    )
