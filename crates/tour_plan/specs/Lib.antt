pub mod Planned
pub mod Asked
