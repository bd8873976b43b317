pub mod Reach
pub mod Machine
pub mod Replay
pub mod Pruned
pub mod Refusal
pub mod TourRest
pub mod Book
pub mod Laws
