-- The invariant: `seen` tells the slots before field i; what is left, from it on, comes to the same as the whole.
use Rattle.std.specs.Prelude.{◌≡◌, ◌-◌, ◌<◌}
use Rattle.base.specs.Kit.{ℕ, false, not, get_or, length}
use Rattle.verify.specs.Check.{fresh_from, permutes, permutes_from}
use Rattle.verify.proofs.record.is_permutation.Given as goal

abbrev pub invariant-loop-i : goal.invariant-loop-i
invariant-loop-i l =
    (length l.seen ≡ 15) × ((k : ℕ) → k < 15 → get_or l.seen k false ≡ not (fresh_from l.permutation k 0 l.i))
    × (permutes_from l.permutation l.i (15 - l.i) ≡ permutes l.permutation)
