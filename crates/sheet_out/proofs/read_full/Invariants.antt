-- What is done stays within the space, whose length stays.
use Rattle.std.specs.Prelude.{◌≡◌, ◌≤◌}
use Rattle.base.specs.Kit.{length}
use Rattle.sheet_out.proofs.read_full.Given as goal

abbrev pub invariant-loop : goal.invariant-loop
invariant-loop g l = (l.done ≤ length l.space) × (length l.space ≡ length l.initial.space)
