pub mod Day
pub mod Time
pub mod Fields
pub mod TimeOf
pub mod Laws
