pub mod Layers
pub mod Plain
pub mod Path
pub mod Buckets
pub mod Laws
