pub mod Types
pub mod Demand
pub mod AtEnd
pub mod HandedOut
