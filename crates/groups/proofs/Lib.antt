pub mod Lines
pub mod LineRead
pub mod Found
pub mod GroupLaws
pub mod SizeLaws
pub mod Firsts
pub mod TopLayer
