use Rattle.std.specs.Prelude.{◌≡◌, ◌-◌, ◌≤◌}
use Rattle.base.specs.Kit.{length, paste}
use Rattle.sheet.specs.Sheet.{decimal}
use Rattle.sheet.proofs.Decimal.{lasts}
use Rattle.sheet.proofs.put_decimal.Given as goal

abbrev pub invariant-loop-i : goal.invariant-loop-i
invariant-loop-i l =
    (l.at ≤ l.i) × (paste l.out l.at (lasts (l.i - l.at) l.rest) (length (lasts (l.i - l.at) l.rest)) ≡ paste l.initial.out l.at (decimal l.x) (length (decimal l.x)))
