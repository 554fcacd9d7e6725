-- Laws of the cursor that callers cite.
pub mod Past
pub mod Bound
