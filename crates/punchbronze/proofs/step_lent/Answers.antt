-- No step is made where there is no room, or where the record is no walk's.
use Rattle.std.proofs.lemmas.Bool.Decides.{nat_tests}
use Rattle.base.specs.Kit.{sym, ◌∙◌, arith, rules}
use Rattle.base.specs.Pick.{pick}
use Rattle.walk_record.specs.Record.{is_record, sized}
use Rattle.walk_record.proofs.Told.{bound_none, unreadable_none}
use Rattle.record_step.specs.Step.{step_number, left, step_numbers, step_buf}
use Rattle.record_step.specs.CodeStep.{step_out}
use Rattle.record_step.proofs.Steps.{no_record}
use Rattle.punchbronze.proofs.step_lent.Goals as goal
use Rattle.punchbronze.proofs.step_lent.Goals.{in_default-via-in-None-1, in_default-via-in-Some+in-None-1, in_default-via-in-Some+in-Some-as_mut_array+in-None-1, in_default-via-in-Some+in-Some-as_mut_array+in-Some-as_mut_array-2+in-None-1, in_default-via-in-Some+in-Some-as_mut_array+in-Some-as_mut_array-2+in-Some-as_array+else-is_readable}

pub returns-2 : goal.returns-2
unfolding step_number step_numbers step_buf step_out left is_record sized pick
returns-2 c = elim c.in_default.branch [
  | in_default-via-in-None-1 w ↦ grind (arith, nat_tests)
  | in_default-via-in-Some+in-None-1 w ↦ grind (arith, nat_tests)
  | in_default-via-in-Some+in-Some-as_mut_array+in-None-1 w ↦ grind (arith, nat_tests)
  | in_default-via-in-Some+in-Some-as_mut_array+in-Some-as_mut_array-2+in-None-1 w ↦
      rw (w.numbers-is, w.in-Some-as_mut_array.ensures.cases.same, w.buf-is, w.in-Some-as_mut_array-2.ensures.cases.same, w.out-is, w.in-Some.ensures.cases.same)
      (no_record _ _ _ _ _ w.in-Some.ensures.cases.long (bound_none c.args.numbers.now c.args.buf.now c.args.bound.now (search rules)))
  | in_default-via-in-Some+in-Some-as_mut_array+in-Some-as_mut_array-2+in-Some-as_array+else-is_readable w ↦
      rw (w.numbers-is, w.in-Some-as_mut_array.ensures.cases.same, w.buf-is, w.in-Some-as_mut_array-2.ensures.cases.same, w.out-is, w.in-Some.ensures.cases.same)
      (no_record _ _ _ _ _ w.in-Some.ensures.cases.long (unreadable_none _ _ _ (rw w.in-Some-as_mut_array.ensures.cases.same at (sym w.is_readable.ensures ∙ w.if-is_readable.false))))
]
