-- The slot before it, if there is one, is in order, or is not.
use Rattle.std.specs.Prelude.{◌≡◌}
use Rattle.base.specs.Kit.{true, arith}
use Rattle.base.specs.Pick.{pick}
use Rattle.std.proofs.lemmas.Bool.Decides.{nat_tests}
use Rattle.verify.specs.Check.{in_order, in_range}
use Rattle.verify.specs.CodeCases.{slot_check}
use Rattle.verify.proofs.SlotTests.{in_order_at}
use Rattle.verify.proofs.slot.Slots.check.Goals as goal
use Rattle.verify.proofs.slot.Slots.check.Goals.{After-ikey-ikey, else-i-gt0-via-then-i-gt0+else-not-is_before, else-i-gt0-via-else-i-gt0}

ordered : (c : After-ikey-ikey) → let a = c.args.self in in_order a.leaf.image.now a.leaf.at c.args.position.0 ≡ true
ordered c =
    elim c.else-i-gt0.branch [
      | else-i-gt0-via-then-i-gt0+else-not-is_before w ↦ grind (arith, in_order_at)
      | else-i-gt0-via-else-i-gt0 w ↦ grind (arith, in_order_at, nat_tests)
    ]

pub returns-then-not-is_before : goal.returns-then-not-is_before
unfolding slot_check pick
returns-then-not-is_before c = grind (arith, in_order_at, nat_tests)

pub returns-then-ikey-self : goal.returns-then-ikey-self
unfolding slot_check in_range pick
returns-then-ikey-self c = grind (arith, nat_tests, ordered (goal.at.returns-then-ikey-self c).After-ikey-ikey)

pub returns : goal.returns
unfolding slot_check in_range pick
returns c = grind (arith, nat_tests, ordered (goal.at.returns c).After-ikey-ikey)
