-- The types of code that this crate's definitions and proofs speak of, each with the variants that they name.
pub use Rattle.cursor.specs.declared.cursor_key.CursorKey.{CursorKey}
pub use Rattle.cursor.specs.declared.range_bound.RangeBound.{RangeBound}
pub use Rattle.cursor.specs.declared.range_bound.StartMode.{StartMode}
pub use Rattle.cursor.specs.declared.range_bound.StartMode.TheVariants.{Above, From}
pub use Rattle.walk.specs.declared.scan_state.HandedOut.{HandedOut}
pub use Rattle.walk.specs.declared.scan_state.LayerContext.{LayerContext}
pub use Rattle.walk.specs.declared.scan_state.Walk.{Walk}
pub use Rattle.walk.specs.declared.scan_state.WalkState.{WalkState}
pub use Rattle.walk.specs.declared.scan_state.WalkState.TheVariants.{FindNext, Ended, Start, Retry}
