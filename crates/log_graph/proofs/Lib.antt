mod Ranges
mod DayFacts
