-- The definition files of this crate.
pub mod Types
pub mod Record
pub mod CodeLaid
