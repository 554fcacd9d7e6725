-- The lemma files of this crate: the functions' laws; then the theorem, in the order in which its files rest on one another.
pub mod LineLaws
pub mod Fits
pub mod Few
pub mod Listed
pub mod Counted
