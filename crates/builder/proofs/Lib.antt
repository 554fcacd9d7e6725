pub mod Image
pub mod Answered
