pub mod CursorKey
pub mod RangeBound
