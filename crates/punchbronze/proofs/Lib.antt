-- The lemma files of this crate; `Placing` is a theorem.
pub mod Lent
pub mod Placing
