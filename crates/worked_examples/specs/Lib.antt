pub mod Sample
pub mod Examples
