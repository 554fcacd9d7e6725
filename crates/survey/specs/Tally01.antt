-- THE TALLY AS IT WAS, for one theorem alone (02 [6]: "The tally relied on the old meaning: it shall name mode above and give the same
-- answers as before, proved so"). Its walk is the one that 01's short form placed.
use Rattle.std.specs.Prelude.{◌∷◌, ◌+◌, Option, None, Some, Result, Ok, Err}
use Rattle.base.specs.Kit.{List, [], ℕ, length}
use Rattle.base.specs.Decline.{and_then}
use Rattle.base.specs.declared.Decline.{Decline}
use Rattle.verify.specs.Check.{check}
use Rattle.walk.specs.Placing.{place}
use Rattle.cursor.specs.declared.range_bound.StartMode.TheVariants.{Above}
use Rattle.walk.specs.declared.scan_state.Placed.{Placed}
use Rattle.walk.specs.declared.scan_state.Walk.{Walk}
use Rattle.demands.specs.Demand.{Said, hands_out, none, declines, said, steps, calls_of}

-- "A short form has no start mode and means above."
unfoldable pub place_short01 : List ℕ → List ℕ → ℕ → List ℕ → Placed
place_short01 image key kind bound = place image Above key kind bound

-- "how many keys a walk .. hands out": the steps that say a key, of as many as the image has bytes. An accepted image has no more keys.
unfoldable pub keys_said : List Said → ℕ
keys_said [] = 0
keys_said (hands_out x ∷ rest) = 1 + keys_said rest
keys_said (none ∷ rest) = keys_said rest
keys_said (declines n ∷ rest) = keys_said rest

unfoldable pub handed_out : Walk → List ℕ → ℕ
handed_out w image = keys_said (said (steps w (calls_of image (length image))))

-- What a placing's decline says, or else n.
abbrev pub unless : Option Decline → ℕ → Result ℕ Decline
unless None n = Ok n
unless (Some d) n = Err d

-- "Check's numbers, then 11, 12, 13. It uses the short form."
unfoldable pub tally01 : List ℕ → List ℕ → ℕ → List ℕ → Result ℕ Decline
tally01 image cursor kind bound =
    let placed = place_short01 image cursor kind bound in
    and_then (check image) (λ counts. unless placed.declined (handed_out placed.walk image))
