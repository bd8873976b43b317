pub mod CenturyDates
pub mod Opening
pub mod StopPlaces
pub mod TimeTexts
