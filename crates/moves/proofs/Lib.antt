-- The lemma files of this crate: what its own proofs cite, and what the loop cites; `ByRule01` is a theorem.
pub mod Answers
pub mod StoredKey
pub mod Laws
pub mod FastLaws
pub mod Told
pub mod ByRule01
