pub mod EndLaws
pub mod WorkLaws
