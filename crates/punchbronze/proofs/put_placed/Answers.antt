-- A record of which one length is another stays.
use Rattle.std.proofs.lemmas.Bool.Decides.{nat_tests}
use Rattle.base.specs.Kit.{length, arith, rules}
use Rattle.base.specs.Pick.{pick}
use Rattle.walk_record.specs.Record.{sized}
use Rattle.walk_record.proofs.Told.{unsized_bound}
use Rattle.punchbronze.specs.Interface.{placed_number, placed_numbers, placed_buf, placed_bound}
use Rattle.punchbronze.proofs.Lent.{not_placed}
use Rattle.punchbronze.proofs.put_placed.Goals as goal
use Rattle.punchbronze.proofs.put_placed.Goals.{in_default-via-in-None-1, in_default-via-in-Some+in-None-1, in_default-via-in-Some+in-Some-as_mut_array+in-None-1}

pub returns-2 : goal.returns-2
unfolding placed_number placed_numbers placed_buf placed_bound sized pick
returns-2 c = elim c.in_default.branch [
  | in_default-via-in-None-1 w ↦ grind (arith, nat_tests)
  | in_default-via-in-Some+in-None-1 w ↦ grind (arith, nat_tests)
  | in_default-via-in-Some+in-Some-as_mut_array+in-None-1 w ↦
      rw (w.numbers-is, w.in-Some.ensures.cases.same, w.buf-is, w.in-Some-as_mut_array.ensures.cases.same, w.bound-is, c.from.ensures)
      (not_placed _ _ _ _ (unsized_bound (length c.args.numbers.now) (length c.args.buf.now) (length c.args.bound.now) (search rules)))
]
