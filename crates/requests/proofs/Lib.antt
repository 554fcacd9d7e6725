pub mod Answering
pub mod HexDigits
