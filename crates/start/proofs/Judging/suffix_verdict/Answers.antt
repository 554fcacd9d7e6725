-- A suffix that may be read ends in the image.
use Rattle.base.specs.Kit.{◌∙◌, sym, arith}
use Rattle.search.proofs.Answers.{suffix-in}
use Rattle.start.proofs.Judging.suffix_verdict.Goals as goal

pub overflow_add-self-else-not-is_suffix_readable : goal.overflow_add-self-else-not-is_suffix_readable
overflow_add-self-else-not-is_suffix_readable c =
    rw c.ksuf.ensures (omega (arith, suffix-in _ _ _ (sym c.is_suffix_readable.ensures ∙ c.if-not-is_suffix_readable.false)))
