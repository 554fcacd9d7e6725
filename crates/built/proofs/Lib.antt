-- The lemma files of this crate, in the order in which they rest on one another.
pub mod Live
pub mod Listed
pub mod Built
pub mod Examples
pub mod Answer
