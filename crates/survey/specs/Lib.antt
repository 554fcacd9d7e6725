pub mod Tally
pub mod Tally01
