use Rattle.std.specs.Prelude.{◌≡◌}
use Rattle.search.specs.Traversal.{reach}
use Rattle.search.proofs.traversal.reach_leaf_for_scan.Given as goal

abbrev pub invariant-loop-leaf : goal.invariant-loop-leaf
invariant-loop-leaf l = reach l.image l.ikey l.node ≡ reach l.image l.ikey l.root

abbrev pub decreases-loop-leaf : goal.decreases-loop-leaf
decreases-loop-leaf l = l.node
