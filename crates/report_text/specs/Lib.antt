pub mod Report
pub mod Draws
pub mod Made
