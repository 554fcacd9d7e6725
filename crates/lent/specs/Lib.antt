-- The definition files of this crate.
pub mod Form
