pub mod Le
pub mod Version
pub mod Permuter
pub mod Layout
pub mod Ksearch
pub mod Heading
