pub mod Runs
pub mod Refutes
