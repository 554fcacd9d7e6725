-- The lemma files of this crate.
pub mod Same
