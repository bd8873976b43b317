pub mod Grow
pub mod Count
pub mod Search
