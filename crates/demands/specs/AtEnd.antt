-- What 02 [12] changes of a list of steps: "answers remain, and the moves up to the first none fall exactly where the end is handed out".
use Rattle.std.specs.Prelude.{◌&&◌, ◌||◌, ◌∷◌, ◌≡◌, ◌<◌}
use Rattle.base.specs.Kit.{Bool, true, false, List, [], ℕ}
use Rattle.base.specs.Pick.{pick}
use Rattle.cursor.specs.RangeBound.{at_end}
use Rattle.scan.specs.MovesOn.{step_on}
use Rattle.demands.specs.Types.{Walk, Stepped}
use Rattle.demands.specs.Demand.{Call, Said, hands_out, none, declines, said_by, said, moves_of}

-- The steps of the machine that moves on past its included end.
unfoldable pub steps_on : Walk → List Call → List Stepped
steps_on w [] = []
steps_on w (c ∷ rest) = step_on w c.bytes ∷ steps_on (step_on w c.bytes).walk rest

-- "up to the first none", that one with them.
unfoldable pub is_none : Said → Bool
is_none (hands_out x) = false
is_none none = true
is_none (declines n) = false

unfoldable pub up_to_none : List Stepped → List Stepped
up_to_none [] = []
up_to_none (s ∷ rest) = s ∷ pick (is_none (said_by s)) [] (up_to_none rest)

-- The key exactly at the included end is handed out.
unfoldable pub is_end : ℕ → List ℕ → Said → Bool
is_end kind bound (hands_out x) = at_end kind bound x.key
is_end kind bound none = false
is_end kind bound (declines n) = false

unfoldable pub is_any : (Said → Bool) → List Said → Bool
is_any t [] = false
is_any t (x ∷ l) = t x || is_any t l

-- Of the steps of the machine as it is now, and of the same calls before: the answers are the same; where the steps come to a none and the end
-- is handed out, those up to that none make fewer moves, and else as many.
pub record StopsAtEnd (kind : ℕ) (bound : List ℕ) (now before : List Stepped) : Type 0 where
  pub answers : said now ≡ said before
  pub fewer : is_any is_none (said now) ≡ true → is_any (is_end kind bound) (said now) ≡ true → moves_of (up_to_none now) < moves_of (up_to_none before)
  pub else_same : is_any is_none (said now) && is_any (is_end kind bound) (said now) ≡ false → moves_of (up_to_none now) ≡ moves_of (up_to_none before)
