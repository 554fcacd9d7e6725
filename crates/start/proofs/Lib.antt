-- The lemma files of this crate. `StartLaws` is for its callers too, `ByRule01` is a theorem.
pub mod StartLaws
pub mod ByRule01
