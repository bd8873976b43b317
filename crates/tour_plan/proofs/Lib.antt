pub mod Parents
pub mod Proven
