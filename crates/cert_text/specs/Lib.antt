pub mod CoverLists
pub mod Cert
pub mod Text
