-- The proof of demand 3 over the functions that C calls: one call, every list of them, and the theorem.
pub mod Calls
pub mod CDemand
