pub mod Form
pub mod Good
pub mod Read
pub mod Pairs
pub mod Fault
pub mod Opened
pub mod CodeViews
