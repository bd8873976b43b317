-- What follows from the definitions, for the contracts and proofs of this crate and of those above it.
pub mod Rounding
pub mod Units
pub mod StepCounts
pub mod BoundLaws
pub mod ShiftLaws
