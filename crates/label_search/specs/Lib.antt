pub mod Sound
pub mod Searched
pub mod Searching
pub mod Ways
pub mod Terms
pub mod Laws
