-- The types of code that this crate's definitions and proofs speak of, each with the variants that they name.
pub use Rattle.base.specs.declared.Decline.{Decline}
pub use Rattle.cursor.specs.declared.range_bound.StartMode.TheVariants.{From}
pub use Rattle.verify.specs.declared.Counts.{Counts}
pub use Rattle.walk.specs.declared.scan_state.KeyOut.{KeyOut}
pub use Rattle.walk.specs.Types.{Stepped}
pub use Rattle.walk.specs.declared.scan_state.Walk.{Walk}
pub use Rattle.listed.specs.declared.Line.{Line}
pub use Rattle.listed.specs.declared.Listing.{Listing}
pub use Rattle.listed.specs.declared.Stage.{Stage}
pub use Rattle.listed.specs.declared.Stage.TheVariants.{First, Pairs, Refused, Done}
