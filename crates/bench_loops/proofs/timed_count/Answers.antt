-- The walk that is counted is the placing's.
use Rattle.base.specs.Kit.{◌∙◌}
use Rattle.bench_loops.proofs.timed_count.Goals as goal

pub returns : goal.returns
returns c = c.count_keys.ensures ∙ (rw c.place-placed.ensures)
