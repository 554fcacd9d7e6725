-- The lemma files of this crate: laws that its own proofs and its callers cite.
pub mod LeLaws
pub mod PermuterLaws
pub mod KsearchLaws
pub mod HeadingLaws
