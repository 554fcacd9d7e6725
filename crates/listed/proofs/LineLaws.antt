-- An accepted image has a trailer.
use Rattle.std.specs.Prelude.{◌≡◌, ◌≤◌, Ok}
use Rattle.base.specs.Kit.{sym, ap, List, ℕ, arith, length}
use Rattle.verify.specs.Check.{check_number, check}
use Rattle.verify.proofs.Theorem.{accepted_obeys}
use Rattle.listed.specs.Types.{Counts}

pub has_trailer : (image : List ℕ) (c : Counts) → Ok c ≡ check image → 32 ≤ length image
unfolding check_number
has_trailer image c e = omega (arith, (accepted_obeys image (ap check_number (sym e))).0.long)
