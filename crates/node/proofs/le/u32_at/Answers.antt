-- std's number of the four bytes is the definition's.
use Rattle.base.specs.Kit.{◌∙◌, arith}
use Rattle.node.specs.Le.{u32_at}
use Rattle.node.proofs.LeLaws.{summed}
use Rattle.node.proofs.le.u32_at.Goals as goal

pub returns : goal.returns
unfolding u32_at
returns c = c.from_le_bytes.ensures ∙ summed _ _ 4 c.bytes_at.ensures 3 (omega arith)
