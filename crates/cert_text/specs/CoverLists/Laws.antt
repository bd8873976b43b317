-- What follows from the definitions of cover lists, for the contracts and proofs of this crate and of those above it.
pub mod ProblemLaws
pub mod BoundLaws
pub mod BetterLaws
pub mod ContinuationLaws
pub mod CoverLaws
pub mod ProblemOf
pub mod UnitLaws
pub mod SolutionLaws
