-- The types of code that this crate's definitions and proofs speak of, each with the variants that they name.
pub use Rattle.cursor.specs.declared.range_bound.StartMode.{StartMode}
pub use Rattle.walk.specs.Types.{Answer, Stepped}
pub use Rattle.walk.specs.declared.scan_state.HandedOut.{HandedOut}
pub use Rattle.walk.specs.declared.scan_state.Placed.{Placed}
pub use Rattle.walk.specs.declared.scan_state.Walk.{Walk}
pub use Rattle.scan.specs.declared.scan_ctx.Held.{Held}
