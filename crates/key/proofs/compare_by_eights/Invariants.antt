use Rattle.key.specs.Comparisons.{compared}
use Rattle.key.proofs.Comparisons.{Left, singles}
use Rattle.key.proofs.compare_by_eights.Given as goal

abbrev pub invariant-loop-n : goal.invariant-loop-n
invariant-loop-n l = Left l.a l.b 8 l.eights (singles l.a l.b) (compared l.a l.b) l.n
