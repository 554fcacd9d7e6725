pub mod Types
pub mod Start
