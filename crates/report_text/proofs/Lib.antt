mod Departure
mod RunLines
mod MarkTimes
mod Placed
mod Histories
mod Drawn
mod OneReport
