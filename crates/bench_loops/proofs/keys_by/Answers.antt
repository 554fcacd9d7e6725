-- The loop over a form of the step: each way through a turn has its law.
use Rattle.walk.specs.Walk.{keys_of}
use Rattle.bench_loops.proofs.Counting.{begins, goes_on_lem, ends, runs-out}
use Rattle.bench_loops.proofs.keys_by.Goals as goal

pub loop-count-init : goal.loop-count-init
loop-count-init g c = begins c.args.image.now c.args.start

pub loop-count-preserved : goal.loop-count-preserved
unfolding keys_of
loop-count-preserved g c =
    goes_on_lem _ _ _ _ c.loop-count.invariant c.loop-count-test.true _
    (c.requires.steps _ _ _ c.step-stepped.ensures) (rw (c.in-Ok-Some.is, rw c.in-Ok-Some.is at c.in-Ok-Some.field-0-is))

pub returns-in-Ok-None : goal.returns-in-Ok-None
unfolding keys_of
returns-in-Ok-None g c =
    ends _ _ _ _ c.loop-count.invariant c.loop-count-test.true _
    (c.requires.steps _ _ _ c.step-stepped.ensures) (rw (c.in-Ok-None.is, rw c.in-Ok-None.is at c.in-Ok-None.field-0-is))

pub returns-in-Err : goal.returns-in-Err
unfolding keys_of
returns-in-Err g c =
    ends _ _ _ _ c.loop-count.invariant c.loop-count-test.true _
    (c.requires.steps _ _ _ c.step-stepped.ensures) (rw c.in-Err.is)

pub returns : goal.returns
returns g c = runs-out c.args.image.now c.args.start c.loop-count.walk _ c.loop-count.invariant c.loop-count-test.false
