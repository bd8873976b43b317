pub mod Few
pub mod Numbers
pub mod Book
pub mod Counted
pub mod Covers
pub mod Machine
pub mod Nights
pub mod Laws
