-- The types of code that this crate's definitions and proofs speak of, each with the variants that they name.
pub use Rattle.base.specs.declared.Decline.{Decline}
pub use Rattle.base.specs.declared.Decline.TheVariants.{Unreadable}
pub use Rattle.std.specs.declared.cmp.Ordering.{Ordering}
pub use Rattle.std.specs.declared.cmp.Ordering.TheVariants.{Less, Equal, Greater}
pub use Rattle.cursor.specs.declared.cursor_key.CursorPlace.{CursorPlace}
pub use Rattle.cursor.specs.declared.range_bound.Side.{Side}
pub use Rattle.cursor.specs.declared.range_bound.Side.TheVariants.{Inside, AtEnd, Past}
pub use Rattle.cursor.specs.declared.range_bound.StartMode.{StartMode}
pub use Rattle.cursor.specs.declared.range_bound.StartMode.TheVariants.{From}
pub use Rattle.node.specs.declared.permuter.Position.{Position}
pub use Rattle.node.specs.declared.permuter.Slot.{Slot}
pub use Rattle.start.specs.declared.Started.{Started}
pub use Rattle.start.specs.declared.Started.TheVariants.{At, Enter as EnterAt}
pub use Rattle.moves.specs.declared.context.Outcome.{Outcome}
pub use Rattle.moves.specs.declared.context.Outcome.TheVariants.{Emit, Exhausted, Continue, Push}
pub use Rattle.moves.specs.declared.context.Pass.{Pass}
pub use Rattle.moves.specs.declared.context.ScanCtx.{ScanCtx}
pub use Rattle.moves.specs.declared.context.ScanState.{ScanState}
pub use Rattle.moves.specs.declared.context.ScanState.TheVariants.{Start, Retry, FindNext, Down, Up}
pub use Rattle.moves.specs.declared.fast_path.HandedKey.{HandedKey}
