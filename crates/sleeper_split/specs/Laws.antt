-- What follows from the definitions, for the contracts and proofs of this crate and of those above it.
pub mod Alike
pub mod Growth
pub mod Exact
pub mod TrackLaws
pub mod Limits
pub mod ChoiceLaws
pub mod EndLaws
pub mod ExactLaws
pub mod CountryLaws
pub mod CoverLaws
pub mod CoverTests
pub mod NumberLaws
pub mod BetterLaws
pub mod Runs
pub mod MarkedTracks
pub mod Places
pub mod SameMarks
