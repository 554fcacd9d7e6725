-- `step_walk` meets its contract: the number of the step decides.
use Rattle.std.specs.Prelude.{◌≡◌, Ok}
use Rattle.base.specs.Kit.{refl, ◌∙◌}
use Rattle.base.proofs.Declines.{handed_on}
use Rattle.walk_record.proofs.Told.{record_is}
use Rattle.record_step.proofs.InPlace.{read-tested}
use Rattle.record_step.proofs.Steps.{declined, taken}
use Rattle.record_step.proofs.step.step_walk.Goals as goal

pub step_of-s-requires : goal.step_of-s-requires
step_of-s-requires c =
    let is = record_is _ _ _ c.told-numbers c.told-buf c.told-bound c.requires.numbers_readable in
    λ e. read-tested _ _ _ _ is _ c.read_walk.ensures (c.requires.image_value e)

pub returns-in_err-key : goal.returns-in_err-key
returns-in_err-key c =
    let is = record_is _ _ _ c.told-numbers c.told-buf c.told-bound c.requires.numbers_readable in
    rw (handed_on _ _ _ c.from_residual.ensures.1 refl) (declined _ _ _ _ _ c.told-out is _ c.read_walk.ensures _ c.step_of-s.ensures _ c.in_err-key.was)

pub returns : goal.returns
returns c =
    let is = record_is _ _ _ c.told-numbers c.told-buf c.told-bound c.requires.numbers_readable in
    let ok : c.step_of-s.result.answer ≡ Ok c.in_ok-key.key = c.in_ok-key.was in
    taken _ _ _ _ _ c.told-out is _ c.read_walk.ensures _ c.step_of-s.ensures _ ok _ _ _ c.put_moved.ensures.0 c.put_moved.ensures.1
    (c.copy_from_slice.ensures.after ∙ c.answer_numbers.ensures ∙ rw ok refl)
