-- Each turn of the loop is one call, or the end.
use Rattle.std.proofs.Common.{rules, ◌≡◌, ◌-◌, arith}
use Rattle.requests.proofs.Answering.{next, last}
use Rattle.requests.proofs.each.Goals as goal

pub loop-init : goal.loop-init
loop-init g c f a = let e : c.args.most - 0 ≡ c.args.most = omega arith in rw e at a

pub returns-then-is_none : goal.returns-then-is_none
returns-then-is_none g c =
    c.loop.invariant _
    (last _ _ _ c.answer.result _ _ (search rules)
    record { request = _; input = _; left = _; fits = search rules; called = c.answer.ensures }
    (search rules))

pub loop-preserved : goal.loop-preserved
loop-preserved g c f a =
    c.loop.invariant _
    (next _ _ _ c.answer.result _ _ _ (search rules)
    record { request = _; input = _; left = _; fits = search rules; called = c.answer.ensures }
    (search rules) a)
