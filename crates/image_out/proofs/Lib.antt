pub mod PutLaws
pub mod PutRows
pub mod Rows
pub mod RecordBytes
