pub mod Machine
pub mod Advance
pub mod Numbers
pub mod Ends
pub mod Spans
pub mod Book
pub mod Laws
