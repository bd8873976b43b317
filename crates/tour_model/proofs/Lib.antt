pub mod PieceLaws
pub mod LeaveLaws
pub mod StopLaws
