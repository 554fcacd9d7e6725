use Rattle.std.specs.Prelude.{◌≡◌}
use Rattle.std.specs.Slice.Iter.{chunks_exact_rest, chunks_exact_size}
use Rattle.bench_loops.proofs.Rows.{Rows}
use Rattle.bench_loops.proofs.timed_bound.Given as goal

abbrev pub invariant-loop-name : goal.invariant-loop-name
invariant-loop-name l =
    (chunks_exact_size l.name-iterator ≡ l.width)
    × Rows l.width l.kind l.bound l.names l.count (chunks_exact_rest l.name-iterator)
