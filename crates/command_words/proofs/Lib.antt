pub mod Known
pub mod CommandLines
pub mod PlainForms
pub mod Forms
pub mod Verbs
