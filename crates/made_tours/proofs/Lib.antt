mod Names
mod Numbers
mod Times
mod Lexed
mod Form
mod Bytes
mod TourTexts
mod LogTexts
mod Lawful
pub mod MadeIs
