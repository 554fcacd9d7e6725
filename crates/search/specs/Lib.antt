pub mod Types
pub mod Traversal
pub mod Helper
pub mod CodeSlots
pub mod CodeRecord
