pub mod CodeGroups
pub mod Once
pub mod CodeLines
pub mod CodeSize
