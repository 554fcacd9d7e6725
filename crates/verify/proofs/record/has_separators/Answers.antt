-- A turn of the loop: one separator more is in order.
use Rattle.base.specs.Kit.{arith}
use Rattle.std.proofs.lemmas.Bool.Decides.{nat_tests}
use Rattle.verify.proofs.RecordTests.{separators_next}
use Rattle.verify.proofs.record.has_separators.Goals as goal

pub loop-i-preserved : goal.loop-i-preserved
loop-i-preserved c = grind (arith, separators_next, nat_tests)
