pub mod Shorts
pub mod Suffix
pub mod Parts
