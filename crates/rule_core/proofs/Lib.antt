pub mod PrunedLaws
pub mod ReplayLaws
