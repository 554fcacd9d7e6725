-- The definition files of this crate.
pub mod Types
pub mod CodeLines
pub mod Listed
