pub mod DayDuty
pub mod RestIsBetter
