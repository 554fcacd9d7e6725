-- The loop over eights: each way through a turn has its law, and at its end single bytes decide.
use Rattle.std.specs.Prelude.{◌/◌}
use Rattle.base.specs.Kit.{ap, ℕ, arith}
use Rattle.key.specs.Part.{part}
use Rattle.key.proofs.Order.{cmp-order}
use Rattle.key.proofs.Comparisons.{eights-begin, eights_differ, eights_agree, eights_end, eights_few}
use Rattle.key.proofs.Bytes.{Bytes, bytes_of}
use Rattle.key.proofs.compare_by_eights.Goals as goal
use Rattle.key.proofs.compare_by_eights.Goals.{At-loop-n}

-- what is compared has bytes only
module _ (at : At-loop-n) where
  a-bytes : Bytes at.args.a.now
  a-bytes = bytes_of at.args.a.now (λ k. (at.type_inv.a k).fits)

  b-bytes : Bytes at.args.b.now
  b-bytes = bytes_of at.args.b.now (λ k. (at.type_inv.b k).fits)

pub loop-n-init : goal.loop-n-init
loop-n-init c = let args = c.args in eights-begin args.a.now args.b.now _ (ap (λ (n : ℕ). n / 8) c.min-eights.ensures)

pub returns-then-x-y : goal.returns-then-x-y
returns-then-x-y c =
    rw (c.cmp.ensures, cmp-order)
    (eights_differ _ _ _ (ap (λ (n : ℕ). n / 8) c.min-eights.ensures) (a-bytes (goal.at.returns-then-x-y c).At-loop-n) (b-bytes (goal.at.returns-then-x-y c).At-loop-n) _ c.loop-n.invariant c.loop-n-test.true _ _
    c.eight_at-x.ensures c.eight_at-y.ensures c.if-x-y.true)

pub loop-n-preserved : goal.loop-n-preserved
loop-n-preserved c =
    eights_agree _ _ _ (ap (λ (n : ℕ). n / 8) c.min-eights.ensures) (a-bytes (goal.at.loop-n-preserved c).At-loop-n) (b-bytes (goal.at.loop-n-preserved c).At-loop-n) _ c.loop-n.invariant c.loop-n-test.true _ _
    c.eight_at-x.ensures c.eight_at-y.ensures c.if-x-y.false

pub overflow_add-result-2 : goal.overflow_add-result-2
unfolding part
overflow_add-result-2 c = omega (arith, eights_few _ _ _ (ap (λ (n : ℕ). n / 8) c.min-eights.ensures) _ c.compare_bytes-rest.ensures)

pub returns : goal.returns
unfolding part
returns c =
    eights_end _ _ _ (ap (λ (n : ℕ). n / 8) c.min-eights.ensures) _ c.compare_bytes-rest.ensures _ c.loop-n.invariant c.loop-n-test.false
