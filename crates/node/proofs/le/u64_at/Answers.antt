-- std's number of the eight bytes is the definition's.
use Rattle.base.specs.Kit.{◌∙◌, arith}
use Rattle.node.specs.Le.{u64_at}
use Rattle.node.proofs.LeLaws.{summed}
use Rattle.node.proofs.le.u64_at.Goals as goal

pub returns : goal.returns
unfolding u64_at
returns c = c.from_le_bytes.ensures ∙ summed _ _ 8 c.bytes_at.ensures 7 (omega arith)
