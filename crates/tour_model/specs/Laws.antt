-- What follows from the definitions, for the contracts and proofs of this crate and of those above it.
pub mod WindowLaws
pub mod WayLaws
pub mod ServeLaws
pub mod EtaLaws
pub mod LengthLaws
