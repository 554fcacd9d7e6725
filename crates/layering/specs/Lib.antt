pub mod Tree
pub mod Keys
pub mod Accepted
pub mod Ascending
pub mod Sieve
pub mod Depths
