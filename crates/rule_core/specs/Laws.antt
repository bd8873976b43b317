-- What follows from the definitions, for the contracts and proofs of this crate and of those above it.
pub mod ReachLaws
pub mod OneOf
pub mod ListedLaws
pub mod Guard
pub mod RefusalLaws
pub mod RestLaws
