-- A certificate's text: which certificates have one, how it is spelled, and how it is read.
pub mod Form
pub mod Spelling
pub mod BadLine
pub mod Reading
pub mod Laws
