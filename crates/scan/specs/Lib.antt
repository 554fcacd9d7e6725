pub mod Types
pub mod Machine
pub mod Ends
pub mod Carries
pub mod MovesOn
pub mod CodeLoop
