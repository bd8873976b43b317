pub mod Allow
pub mod Few
pub mod Laws
