pub mod BeginLaws
pub mod SoonerLaws
pub mod TableLaws
pub mod WalkLaws
