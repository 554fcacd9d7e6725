pub mod Types
pub mod CDemand
