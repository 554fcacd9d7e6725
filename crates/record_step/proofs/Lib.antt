-- The lemma files of this crate; `Kept` is a theorem.
pub mod Steps
pub mod InPlace
pub mod Kept
