-- Placing a walk, over any bytes (01, "Place a walk").
use Rattle.std.specs.Prelude.{Option, None, Some, Result, Ok, Err}
use Rattle.base.specs.Kit.{List, ℕ, ltb, length}
use Rattle.base.specs.Pick.{pick}
use Rattle.base.specs.Decline.{number_if, and_then}
use Rattle.base.specs.declared.Decline.{Decline}
use Rattle.base.specs.declared.Decline.TheVariants.{CursorLength, BoundKind, BoundLength}
use Rattle.node.specs.Layout.{root_offset}
use Rattle.node.specs.Heading.{heading}
use Rattle.cursor.specs.CursorKey.{from_slice}
use Rattle.cursor.specs.RangeBound.{bound_of}
use Rattle.walk.specs.Types.{StartMode, Above, From, WalkState, Start, Retry, Walk, Placed}
use Rattle.walk.specs.Walk.{new_walk, zero_walk}

-- "1, 2 as above; 11: ..; 12: kind over 2; 13: bound key over 256 bytes, for kind 0 too"; 02 [1]: "11 now means over 256 bytes, same
-- place".
unfoldable pub placing : List ℕ → List ℕ → ℕ → List ℕ → Result Unit Decline
placing image key kind bound =
    and_then (heading image)
    (λ seen. pick (ltb 256 (length key)) (Err CursorLength) (pick (ltb 2 kind) (Err BoundKind) (pick (ltb 256 (length bound)) (Err BoundLength) (Ok tt))))

-- "the state set to Retry"; "Mode from adds a Start move in place of the first Retry". 02 [1]: "Up to eight bytes nothing changes.
-- Past eight, one Start move is made for the root ..", "in both modes".
abbrev pub short_state : StartMode → WalkState
short_state Above = Retry
short_state From = Start

unfoldable pub start_state : StartMode → ℕ → WalkState
start_state mode n = pick (ltb 8 n) Start (short_state mode)

unfoldable pub fresh_walk : List ℕ → StartMode → List ℕ → ℕ → List ℕ → Walk
fresh_walk image mode key kind bound =
    new_walk (length image) (root_offset image) (from_slice key) (bound_of kind bound) mode (start_state mode (length key))

-- "a declined placing gives the all-zero walk, ended"
abbrev pub placed_by : Result Unit Decline → Walk → Placed
placed_by (Ok seen) w = record { declined = None; walk = w }
placed_by (Err d) w = record { declined = Some d; walk = zero_walk }

unfoldable pub place : List ℕ → StartMode → List ℕ → ℕ → List ℕ → Placed
place image mode key kind bound = placed_by (placing image key kind bound) (fresh_walk image mode key kind bound)

-- "A declined call returns its number": a placing's, 0 where it is not declined.
unfoldable pub code_of : Placed → ℕ
code_of p = number_if p.declined

-- The walk, and of a declined placing its decline in the place of one.
abbrev pub walk_unless : Option Decline → Walk → Result Walk Decline
walk_unless None w = Ok w
walk_unless (Some d) w = Err d

unfoldable pub accepted : Placed → Result Walk Decline
accepted p = walk_unless p.declined p.walk

-- "A short form has no start mode"; 02 [6]: "From now on it means from."
unfoldable pub place_short : List ℕ → List ℕ → ℕ → List ℕ → Placed
place_short image key kind bound = place image From key kind bound
