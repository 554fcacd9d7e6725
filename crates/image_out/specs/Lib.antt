pub mod CodeRows
