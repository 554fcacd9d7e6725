pub mod Order
pub mod Comparisons
pub mod Bytes
pub mod Ikey
pub mod Turns
pub mod Part
pub mod Words
pub mod Turned
