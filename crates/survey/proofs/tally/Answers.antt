-- The placing declines.
use Rattle.survey.proofs.Answers.{placed-declines}
use Rattle.survey.proofs.tally.Goals as goal

pub returns-in-Some : goal.returns-in-Some
returns-in-Some c = placed-declines _ _ _ _ _ c.in_ok-check_image.ensures _ c.place-placed.ensures _ c.in-Some.is
