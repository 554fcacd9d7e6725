use Rattle.std.specs.Prelude.{◌≡◌, ◌-◌}
use Rattle.node.specs.Ksearch.{upper_bound}
use Rattle.node.proofs.ksearch.upper_bound_internode.Given as goal

abbrev pub invariant-loop-i : goal.invariant-loop-i
invariant-loop-i l = upper_bound l.node.image.now l.node.at l.ikey l.i (l.n - l.i) ≡ upper_bound l.node.image.now l.node.at l.ikey 0 l.n
