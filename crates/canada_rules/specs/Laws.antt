-- What follows from the definitions, for the contracts and proofs of this crate and of those above it.
pub mod Padding
pub mod DayGuard
pub mod CalendarSteps
pub mod Paths
pub mod Exact
pub mod States
pub mod Advance
pub mod Covers
pub mod Ahead
pub mod Better
pub mod Single
pub mod Ends
pub mod Stretch
pub mod BookStates
pub mod Idle
pub mod NumberLaws
pub mod BookLaws
