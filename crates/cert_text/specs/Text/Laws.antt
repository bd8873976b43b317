-- What follows from the definitions of a certificate's text, for the contracts and proofs of this crate and of those above it.
pub mod WordLaws
pub mod ItemLaws
pub mod RunLaws
pub mod MarkTextLaws
pub mod LayerLaws
pub mod CertTextLaws
