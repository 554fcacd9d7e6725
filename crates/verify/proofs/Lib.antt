-- The lemma files of this crate: up to Theorem, that the check accepts exactly where 01's rules hold; behind it, what the
-- proofs of the functions cite.
pub mod Going
pub mod Fields
pub mod Records
pub mod Places
pub mod Sound
pub mod Slots
pub mod Leaves
pub mod Subtrees
pub mod Theorem
pub mod RecordTests
pub mod SlotTests
pub mod Steps
pub mod Bounds
pub mod Cycle
