-- What is still to come, behind what was, is what the contract says.
use Rattle.std.proofs.Common.{◌-◌}
use Rattle.requests.specs.declared.TheConstants.{SPACE}
use Rattle.requests.specs.Requests.{Asked, Answered}
use Rattle.requests.proofs.each.Given as goal

abbrev pub invariant-loop : goal.invariant-loop
invariant-loop g l =
    (f : _) → Answered (Asked g.A.FnMut SPACE) (l.most - l.counter) l.answer f
    → Answered (Asked g.A.FnMut SPACE) l.fn.most l.fn.answer f
