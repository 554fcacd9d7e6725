-- The lemma files of this crate. `Laws` and `LoopLaws` are for its callers too; the others serve the proofs of its functions.
pub mod TraversalLaws
pub mod Answers
pub mod LoopLaws
pub mod HelperLaws
pub mod Laws
