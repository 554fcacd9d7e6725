-- The lemma files of this crate.
pub mod PlaceLaws
pub mod NumberLaws
