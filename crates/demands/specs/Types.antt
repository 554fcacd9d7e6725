-- The types of code that this crate's definitions and proofs speak of, each with the variants that they name.
pub use Rattle.base.specs.declared.Decline.{Decline}
pub use Rattle.base.specs.declared.Decline.TheVariants.{WalkRange, Unreadable}
pub use Rattle.cursor.specs.declared.cursor_key.CursorPlace.{CursorPlace}
pub use Rattle.cursor.specs.declared.range_bound.RangeBound.{RangeBound}
pub use Rattle.cursor.specs.declared.range_bound.Side.{Side}
pub use Rattle.cursor.specs.declared.range_bound.Side.TheVariants.{Inside, AtEnd, Past}
pub use Rattle.cursor.specs.declared.range_bound.StartMode.{StartMode}
pub use Rattle.cursor.specs.declared.range_bound.StartMode.TheVariants.{Above, From}
pub use Rattle.cursor.specs.declared.range_bound.Tested.{Tested}
pub use Rattle.std.specs.declared.cmp.Ordering.{Ordering}
pub use Rattle.std.specs.declared.cmp.Ordering.TheVariants.{Less as OrderingLess, Equal as OrderingEqual, Greater as OrderingGreater}
pub use Rattle.moves.specs.declared.context.Outcome.TheVariants.{Continue, Emit, Exhausted}
pub use Rattle.moves.specs.declared.context.Pass.{Pass}
pub use Rattle.moves.specs.declared.context.ScanCtx.{ScanCtx}
pub use Rattle.moves.specs.declared.context.ScanState.{ScanState}
pub use Rattle.moves.specs.declared.context.ScanState.TheVariants.{Retry as ScanStateRetry, FindNext, Up, Start as ScanStateStart}
pub use Rattle.node.specs.declared.permuter.Position.{Position}
pub use Rattle.node.specs.declared.permuter.Slot.{Slot}
pub use Rattle.walk.specs.Types.{Answer, Stepped}
pub use Rattle.walk.specs.declared.scan_state.KeyOut.{KeyOut}
pub use Rattle.walk.specs.declared.scan_state.HandedOut.{HandedOut}
pub use Rattle.walk.specs.declared.scan_state.LayerContext.{LayerContext}
pub use Rattle.walk.specs.declared.scan_state.Placed.{Placed}
pub use Rattle.walk.specs.declared.scan_state.Walk.{Walk}
pub use Rattle.walk.specs.declared.scan_state.WalkState.{WalkState}
pub use Rattle.walk.specs.declared.scan_state.WalkState.TheVariants.{Start as WalkStateStart, Retry as WalkStateRetry, FindNext as WalkStateFindNext, Ended}
pub use Rattle.search.specs.declared.helper.KeyIndexedPosition.{KeyIndexedPosition}
pub use Rattle.search.specs.declared.helper.KeyIndexedPosition.TheVariants.{NotFound, Found}
pub use Rattle.start.specs.declared.Started.{Started}
pub use Rattle.start.specs.declared.Started.TheVariants.{At as StartedAt, Enter as StartedEnter}
pub use Rattle.start.specs.declared.Verdict.{Verdict}
pub use Rattle.start.specs.declared.Verdict.TheVariants.{Pass as VerdictPass, Stand, Enter as VerdictEnter}
pub use Rattle.node.specs.declared.nodeversion.RecordKind.TheVariants.{Leaf as RecordKindLeaf, Internode}
pub use Rattle.verify.specs.declared.Counts.{Counts}
pub use Rattle.scan.specs.declared.scan_ctx.Held.{Held}
