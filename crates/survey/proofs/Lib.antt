pub mod Counting
pub mod Answers
pub mod Theorem
pub mod AsBefore
