-- The types of code that this crate's definitions and proofs speak of, each with the variants that they name.
pub use Rattle.base.specs.declared.Decline.{Decline}
pub use Rattle.base.specs.declared.Decline.TheVariants.{RecordPlace, RecordVersion, LeafPermutation, SlotLength, SlotKey, SlotOrder, LeafChain, KeyCount}
pub use Rattle.node.specs.declared.leaf.Suffix.{Suffix}
pub use Rattle.node.specs.declared.nodeversion.RecordKind.{RecordKind}
pub use Rattle.node.specs.declared.nodeversion.RecordKind.TheVariants.{Leaf, Internode}
pub use Rattle.node.specs.declared.permuter.Slot.{Slot}
pub use Rattle.verify.specs.declared.Counts.{Counts}
pub use Rattle.verify.specs.declared.Progress.{Progress}
pub use Rattle.verify.specs.declared.SlotCheck.{SlotCheck}
pub use Rattle.verify.specs.declared.SlotCheck.TheVariants.{Layer, Passed}
