pub mod Sheet
pub mod Written
