-- `pb_step` meets its contract: the step's answer decides whether what it says or zeros are left.
use Rattle.punchbronze.proofs.Lent.{says, declines}
use Rattle.punchbronze.proofs.pb_step.Goals as goal

pub returns-in_default : goal.returns-in_default
returns-in_default c = says _ _ _ _ _ _ _ _ _ c.step_lent.ensures (rw c.in_default.is)

pub returns : goal.returns
returns c =
    declines _ _ _ _ _ _ _ _ _ c.step_lent.ensures _ c.in-Err.is _ c.from.ensures _ c.put_out.ensures
