pub mod Graph
pub mod Days
