-- `slots_out::add_shorts` meets its contract: what is left besides the rules of its attribute.
use Rattle.base.specs.Kit.{rules, arith}
use Rattle.slots_out.proofs.Shorts.{shorts_end, shorts_line, shorts-len}
use Rattle.slots_out.proofs.add_shorts.Goals as goal

pub lowered_at-r-requires-clause-one_line : goal.lowered_at-r-requires-clause-one_line
lowered_at-r-requires-clause-one_line c = shorts_line _ _ _ _ _ _ _ _ c.loop.invariant (omega arith)

pub returns : goal.returns
returns c = shorts_end _ _ _ _ _ _ _ _ c.loop.invariant (omega arith)

pub overflow_cast-slot : goal.overflow_cast-slot
overflow_cast-slot c =
    let h = shorts-len _ _ _ _ _ _ _ _ c.loop.invariant (omega arith) c.lowered_at-r.result c.lowered_at-r.ensures in
    search rules
