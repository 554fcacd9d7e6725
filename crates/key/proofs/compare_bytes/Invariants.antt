use Rattle.key.proofs.Comparisons.{Rests}
use Rattle.key.proofs.compare_bytes.Given as goal

abbrev pub invariant-loop-i : goal.invariant-loop-i
invariant-loop-i l = Rests l.a l.b l.i-iterator.count l.i-iterator.iter.a.rest.now l.i-iterator.iter.b.rest.now
