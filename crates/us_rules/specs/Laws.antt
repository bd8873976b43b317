-- What follows from the definitions, for the contracts and proofs of this crate and of those above it.
pub mod Padding
pub mod BreakGuard
pub mod WeekGuard
pub mod Paths
pub mod Exact
pub mod States
pub mod Advance
pub mod Covers
pub mod Lasting
pub mod Better
pub mod NumberLaws
pub mod Single
pub mod Successors
pub mod Ends
pub mod Spans
pub mod Ahead
pub mod BookLaws
