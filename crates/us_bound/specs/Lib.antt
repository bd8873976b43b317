pub mod Projection
pub mod Work
pub mod LabelEnd
pub mod ShiftBound
pub mod LaterBounds
pub mod Laws
