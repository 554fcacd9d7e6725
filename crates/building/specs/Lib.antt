pub mod Shape
pub mod Build
pub mod Examples
pub mod CodeOrder
pub mod CodeWritten
pub mod CodeSiblings
pub mod CodeLaid
pub mod CodeGood
