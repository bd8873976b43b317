-- What follows from the definitions, for the contracts and proofs of this crate and of those above it.
pub mod FewLaws
pub mod FewNights
pub mod NumberLaws
pub mod Better
pub mod BookLaws
pub mod Counted
pub mod CountedLaws
pub mod Covers
pub mod Dates
pub mod Ended
pub mod Exact
pub mod KeptNights
pub mod NightLaws
pub mod NightTest
pub mod Single
pub mod Stands
pub mod Steps
