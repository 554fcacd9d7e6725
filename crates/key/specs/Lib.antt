pub mod Order
pub mod Comparisons
pub mod Ikey
pub mod Part
pub mod CodeWords
