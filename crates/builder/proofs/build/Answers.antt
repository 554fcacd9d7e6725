-- `builder::build` meets its contract: each return is one of the answer's cases.
use Rattle.base.specs.Kit.{refl, sym, ◌∙◌, arith, length-take-le}
use Rattle.base.proofs.Declines.{handed_on}
use Rattle.builder.proofs.Answered.{sheet_declined, taken, too_long, long, too_short, image-written}
use Rattle.builder.proofs.build.Goals as goal
use Rattle.builder.proofs.build.Goals.{then-end-gt-LONGEST-via-then-end-gt-LONGEST, then-end-gt-LONGEST-via-else-end-gt-LONGEST+then-out-end}

pub returns-in_err-opened : goal.returns-in_err-opened
returns-in_err-opened c =
    rw (handed_on _ _ _ c.from_residual.ensures.1 refl) (sheet_declined _ _ _ c.in_err-opened.ensures)

pub invariant_of-top : goal.invariant_of-top
invariant_of-top c = record { fit = (taken _ _ c.in_ok-opened.ensures).fit }

pub returns-then-end-gt-LONGEST : goal.returns-then-end-gt-LONGEST
returns-then-end-gt-LONGEST c = elim c.then-end-gt-LONGEST.branch [
  | then-end-gt-LONGEST-via-then-end-gt-LONGEST w ↦
      too_long _ _ c.in_ok-opened.ensures _ c.layer_size-size.ensures (omega (arith, w.if-end-gt-LONGEST.true)) _
  | then-end-gt-LONGEST-via-else-end-gt-LONGEST+then-out-end w ↦
      too_short _ _ c.in_ok-opened.ensures _ c.layer_size-size.ensures (omega (arith, w.if-end-gt-LONGEST.false)) _ w.if-out-end.true
]

pub write_image-requires-clause-out_len : goal.write_image-requires-clause-out_len
write_image-requires-clause-out_len c =
    length-take-le _ _ (omega arith) ∙ sym (long _ _ c.in_ok-opened.ensures _ c.layer_size-size.ensures (omega arith))

pub returns : goal.returns
returns c =
    image-written _ _ c.in_ok-opened.ensures _ c.layer_size-size.ensures (omega arith) _ _ (omega arith) c.write_image.ensures
