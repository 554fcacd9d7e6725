-- The types of code that this crate's definitions and proofs speak of, each with the variants that they name.
pub use Rattle.cursor.specs.declared.range_bound.RangeBound.{RangeBound}
pub use Rattle.cursor.specs.declared.range_bound.StartMode.{StartMode}
pub use Rattle.cursor.specs.declared.range_bound.StartMode.TheVariants.{Above, From}
pub use Rattle.walk.specs.declared.scan_state.Placed.{Placed}
pub use Rattle.verify.specs.declared.Counts.{Counts}
pub use Rattle.base.specs.declared.Decline.{Decline}
