-- The types of code that this crate's definitions and proofs speak of, each with the variants that they name.
pub use Rattle.base.specs.declared.Decline.{Decline}
pub use Rattle.base.specs.declared.Decline.TheVariants.{WalkRange, Unreadable, MovesSpent}
pub use Rattle.cursor.specs.declared.cursor_key.CursorKey.{CursorKey}
pub use Rattle.cursor.specs.declared.cursor_key.CursorPlace.{CursorPlace}
pub use Rattle.cursor.specs.declared.range_bound.RangeBound.{RangeBound}
pub use Rattle.cursor.specs.declared.range_bound.StartMode.{StartMode}
pub use Rattle.cursor.specs.declared.range_bound.StartMode.TheVariants.{From, Above}
pub use Rattle.moves.specs.declared.context.Outcome.{Outcome}
pub use Rattle.moves.specs.declared.context.Outcome.TheVariants.{Emit, Exhausted, Continue, Push}
pub use Rattle.moves.specs.declared.context.Pass.{Pass}
pub use Rattle.moves.specs.declared.context.ScanCtx.{ScanCtx}
pub use Rattle.moves.specs.declared.context.ScanState.{ScanState}
pub use Rattle.moves.specs.declared.context.ScanState.TheVariants.{FindNext as ScanStateFindNext, Start as ScanStateStart, Retry as ScanStateRetry, Down, Up}
pub use Rattle.moves.specs.declared.fast_path.HandedKey.{HandedKey}
pub use Rattle.node.specs.declared.permuter.Position.{Position}
pub use Rattle.node.specs.declared.permuter.Slot.{Slot}
pub use Rattle.scan.specs.declared.along_leaf.Along.{Along}
pub use Rattle.scan.specs.declared.forward_ctx.Advanced.{Advanced}
pub use Rattle.scan.specs.declared.forward_ctx.Ending.{Ending}
pub use Rattle.scan.specs.declared.scan_ctx.Held.{Held}
pub use Rattle.walk.specs.declared.scan_state.HandedOut.{HandedOut}
pub use Rattle.walk.specs.declared.scan_state.KeyOut.{KeyOut}
pub use Rattle.walk.specs.declared.scan_state.LayerContext.{LayerContext}
pub use Rattle.walk.specs.declared.scan_state.Placed.{Placed}
pub use Rattle.walk.specs.declared.scan_state.StepOf.{StepOf}
pub use Rattle.walk.specs.declared.scan_state.Walk.{Walk}
pub use Rattle.walk.specs.declared.scan_state.WalkState.{WalkState}
pub use Rattle.walk.specs.Types.{Answer, Stepped}
pub use Rattle.walk.specs.declared.scan_state.WalkState.TheVariants.{Start as WalkStateStart, FindNext as WalkStateFindNext, Retry as WalkStateRetry, Ended}
