pub mod FieldFacts
pub mod RowFacts
pub mod RecordFacts
pub mod PlaceFacts
pub mod LoopFacts
