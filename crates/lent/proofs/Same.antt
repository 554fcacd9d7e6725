-- A step in either form is the same step: the list of demand 3 takes the lent form's steps too.
use Rattle.std.specs.Prelude.{◌≡◌}
use Rattle.base.specs.Kit.{List, refl, ℕ}
use Rattle.scan.specs.Machine.{step}
use Rattle.walk.specs.declared.scan_state.Walk.{Walk}
use Rattle.lent.specs.Form.{Form, by_value, lent, step_as}

pub step_as_lem : (f : Form) (w : Walk) (image : List ℕ) → step_as f w image ≡ step w image
unfolding step_as
step_as_lem by_value w image = refl
step_as_lem lent w image = refl
