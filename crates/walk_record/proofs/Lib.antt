-- The lemma files of this crate; `Inverse` is a theorem.
pub mod Tabled
pub mod Turns
pub mod Told
pub mod Inverse
