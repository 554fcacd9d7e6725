-- A sheet has no more lines than its image has bytes, and two.
use Rattle.std.specs.Prelude.{◌+◌, ◌≤◌}
use Rattle.base.specs.Kit.{List, [], ℕ, arith, eqb, length, eqb-true}
use Rattle.base.proofs.Choice.{pick_ind}
use Rattle.layering.proofs.Few.{row_fits}
use Rattle.verify.specs.Check.{check_number, check}
use Rattle.verify.proofs.Theorem.{accepted_obeys}
use Rattle.listed.specs.Types.{From}
use Rattle.listed.specs.Listed.{listed_pairs, line_count}

pub few-lines : (image : List ℕ) → line_count image ≤ length image + 2
unfolding line_count listed_pairs
few-lines image =
    pick_ind (λ (n : ℕ). n ≤ length image + 2) (eqb (check_number (check image)) 0)
    (λ t. omega (arith, row_fits image (accepted_obeys image (eqb-true _ 0 t)).0 From [] 0 []))
    (λ f. omega arith)
