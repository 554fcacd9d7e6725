-- The types of code that this crate's definitions and proofs speak of, each with the variants that they name.
use Rattle.std.specs.Prelude.{Option, Result}
use Rattle.base.specs.declared.Decline.{Decline}
pub use Rattle.cursor.specs.declared.cursor_key.CursorKey.{CursorKey}
pub use Rattle.cursor.specs.declared.range_bound.RangeBound.{RangeBound}
pub use Rattle.cursor.specs.declared.range_bound.StartMode.{StartMode}
pub use Rattle.cursor.specs.declared.range_bound.StartMode.TheVariants.{From, Above}
pub use Rattle.walk.specs.declared.scan_state.HandedOut.{HandedOut}
pub use Rattle.walk.specs.declared.scan_state.KeyOut.{KeyOut}
pub use Rattle.walk.specs.declared.scan_state.LayerContext.{LayerContext}
pub use Rattle.walk.specs.declared.scan_state.Placed.{Placed}
pub use Rattle.walk.specs.declared.scan_state.StepOf.{StepOf}
pub use Rattle.walk.specs.declared.scan_state.Walk.{Walk}
pub use Rattle.walk.specs.declared.scan_state.WalkState.{WalkState}
pub use Rattle.walk.specs.declared.scan_state.WalkState.TheVariants.{Start, FindNext, Retry, Ended}
pub use Rattle.walk.specs.declared.walk_ok.WalkNumbers.{WalkNumbers}

-- a step's answer, as the code's alias has it
abbrev pub Answer : Type 0
Answer = Result (Option KeyOut) Decline

-- and a step
abbrev pub Stepped : Type 0
Stepped = StepOf Decline
