-- The loop's invariant: the digits of the rest, behind those that say `value`, are those of the text behind x. The measure is the rest.
use Rattle.std.specs.Prelude.{◌≡◌}
use Rattle.base.specs.Kit.{length}
use Rattle.reading.specs.Read.{digits}
use Rattle.reading.proofs.digits.Given as goal

abbrev pub invariant-loop-digit : goal.invariant-loop-digit
invariant-loop-digit l = digits l.value l.rest ≡ digits l.x l.text

abbrev pub decreases-loop-digit : goal.decreases-loop-digit
decreases-loop-digit l = length l.rest
