use Rattle.bench_loops.proofs.Counting.{Counts}
use Rattle.bench_loops.proofs.keys_by.Given as goal

abbrev pub invariant-loop-count : goal.invariant-loop-count
invariant-loop-count g l = Counts l.image l.initial.walk l.walk l.count
