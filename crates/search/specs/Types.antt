-- The types of code that this crate's definitions and proofs speak of, each with the variants that they name.
pub use Rattle.base.specs.declared.Decline.{Decline}
pub use Rattle.base.specs.declared.Decline.TheVariants.{Unreadable}
pub use Rattle.cursor.specs.declared.cursor_key.CursorPlace.{CursorPlace}
pub use Rattle.std.specs.declared.cmp.Ordering.{Ordering}
pub use Rattle.std.specs.declared.cmp.Ordering.TheVariants.{Less, Equal, Greater}
pub use Rattle.node.specs.declared.permuter.Position.{Position}
pub use Rattle.node.specs.declared.permuter.Slot.{Slot}
pub use Rattle.search.specs.declared.helper.KeyIndexedPosition.{KeyIndexedPosition}
pub use Rattle.search.specs.declared.helper.KeyIndexedPosition.TheVariants.{NotFound, Found}
pub use Rattle.node.specs.declared.nodeversion.RecordKind.{RecordKind}
pub use Rattle.node.specs.declared.nodeversion.RecordKind.TheVariants.{Leaf, Internode}
pub use Rattle.search.specs.declared.traversal.Record.{Record}
pub use Rattle.search.specs.declared.traversal.Record.TheVariants.{Leaf as LeafThere, Internode as InternodeThere}
