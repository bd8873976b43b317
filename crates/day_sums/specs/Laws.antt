-- What follows from the definitions, for the contracts and proofs of this crate and of those above it.
pub mod SumLaws
pub mod Counted
pub mod LeftLaws
pub mod Now
pub mod Within
