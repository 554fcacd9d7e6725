-- An image of a good length has a trailer.
use Rattle.base.specs.Kit.{sym, ◌∙◌, arith}
use Rattle.node.proofs.HeadingLaws.{length-fits}
use Rattle.node.proofs.trailer.check_heading.Goals as goal

pub invariant_of-trailer : goal.invariant_of-trailer
invariant_of-trailer c = omega (arith, length-fits _ (sym c.is_length_ok.ensures ∙ c.if-not-is_length_ok.false))
