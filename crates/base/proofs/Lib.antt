pub mod Choice
pub mod Tests
pub mod Count
pub mod Needs
pub mod Declines
