pub mod Ends
pub mod CanEnd
pub mod Runs
pub mod Order
pub mod Table
pub mod LeastEnd
pub mod Laws
