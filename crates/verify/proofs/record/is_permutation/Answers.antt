-- A turn of the loop: `seen` tells one slot more.
use Rattle.base.specs.Kit.{arith}
use Rattle.std.proofs.lemmas.Grind.{common_steps}
use Rattle.std.proofs.lemmas.Bool.Decides.{nat_tests}
use Rattle.verify.proofs.RecordTests.{permutes_next, seen_more}
use Rattle.verify.proofs.record.is_permutation.Goals as goal

pub loop-i-preserved : goal.loop-i-preserved
loop-i-preserved c = (
  grind (arith, common_steps),
  λ k h. grind (arith, seen_more, c.loop-i.invariant.1),
  grind (arith, permutes_next, nat_tests, c.loop-i.invariant.1 c.get-slot.result.0),
)
