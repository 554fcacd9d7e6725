-- std's number of the two bytes is the definition's.
use Rattle.base.specs.Kit.{◌∙◌, arith}
use Rattle.node.specs.Le.{u16_at}
use Rattle.node.proofs.LeLaws.{summed}
use Rattle.node.proofs.le.u16_at.Goals as goal

pub returns : goal.returns
unfolding u16_at
returns c = c.from_le_bytes.ensures ∙ summed _ _ 2 c.bytes_at.ensures 1 (omega arith)
