pub mod Types
pub mod Walk
pub mod Placing
