-- The loop over single bytes: each way through a turn has its law, and at its end the lengths decide.
use Rattle.base.specs.Kit.{ap, ◌∙◌}
use Rattle.key.proofs.Order.{cmp-order}
use Rattle.key.proofs.Comparisons.{rests-begin, rests_differ, rests_agree, rests_end, rests_none}
use Rattle.key.proofs.compare_bytes.Goals as goal

pub loop-i-init : goal.loop-i-init
loop-i-init c =
    let e = c.enumerate-i-items.ensures in
    let z = c.zip.ensures in
    let i = c.into_iter-i-iterator.ensures.into_iter_gives in
    rests-begin _ _ _ _ _
    (ap (λ k. k.count) i ∙ e.count)
    (ap (λ k. k.iter.a.rest.now) i ∙ ap (λ k. k.a.rest.now) e.source ∙ ap (λ k. k.rest.now) z.first ∙ c.iter.ensures.rest)
    (ap (λ k. k.iter.b.rest.now) i ∙ ap (λ k. k.b.rest.now) e.source ∙ z.second.0)

pub returns-then-x-y : goal.returns-then-x-y
returns-then-x-y c =
    let s = c.in-Some.ensures.steps in
    rw (c.cmp.ensures, cmp-order, s.1)
    (rests_differ _ _ _ _ _ _ _ (rw (s.0.0, s.0.1) at c.loop-i.invariant) c.if-x-y.true)

pub loop-i-preserved : goal.loop-i-preserved
loop-i-preserved c =
    let s = c.in-Some.ensures.steps in
    rw (s.2) (rests_agree _ _ _ _ _ _ _ (rw (s.0.0, s.0.1) at c.loop-i.invariant) c.if-x-y.false)

pub returns : goal.returns
returns c =
    rw (c.cmp-2.ensures, cmp-order, c.min.ensures)
    (rests_end _ _ _ _ _ c.loop-i.invariant (rests_none _ _ _ _ _ c.loop-i.invariant (λ p. p.1.0) (λ q. q.1.0) (c.in-None.ensures.steps.0)))
