pub mod Kit
pub mod Pick
pub mod Decline
