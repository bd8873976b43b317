pub mod Words
pub mod Log
pub mod Records
pub mod Laws
