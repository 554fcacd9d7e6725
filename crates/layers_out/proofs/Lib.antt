pub mod Leaf
pub mod LeafParts
pub mod Lines
pub mod Beside
pub mod Growth
pub mod GroupParts
