-- What follows from the definitions, for the contracts and proofs of this crate and of those above it.
pub mod EndsLaws
pub mod StepLaws
pub mod CountLaws
pub mod OrderLaws
pub mod Decisions
pub mod LeastLaws
