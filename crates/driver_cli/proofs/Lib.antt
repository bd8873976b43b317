pub mod Prefixes
pub mod Unlawful
pub mod Stages
pub mod Exactly
pub mod Making
pub mod Ended
pub mod Stepped
