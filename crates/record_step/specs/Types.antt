-- The types of code that this crate's definitions and proofs speak of, each with the variants that they name.
pub use Rattle.base.specs.declared.Decline.{Decline}
pub use Rattle.cursor.specs.declared.cursor_key.CursorPlace.{CursorPlace}
pub use Rattle.cursor.specs.declared.range_bound.RangeBound.{RangeBound}
pub use Rattle.moves.specs.declared.fast_path.HandedKey.{HandedKey}
pub use Rattle.node.specs.declared.permuter.Slot.{Slot}
pub use Rattle.walk.specs.Types.{Answer, Stepped}
pub use Rattle.walk.specs.declared.scan_state.HandedOut.{HandedOut}
pub use Rattle.walk.specs.declared.scan_state.KeyOut.{KeyOut}
pub use Rattle.walk.specs.declared.scan_state.Walk.{Walk}
pub use Rattle.walk.specs.declared.scan_state.WalkState.{WalkState}
pub use Rattle.walk.specs.declared.scan_state.WalkState.TheVariants.{FindNext, Ended}
pub use Rattle.scan.specs.declared.scan_ctx.Held.{Held}
