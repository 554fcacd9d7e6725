-- The definition files of this crate.
pub mod Types
pub mod Step
pub mod CodeStep
pub mod CodeInPlace
