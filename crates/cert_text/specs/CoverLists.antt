-- Cover lists: labels and how they grow, which is better, and what follows from layers that answer every label.
pub mod Problem
pub mod Planning
pub mod Cover
pub mod Continuation
pub mod Bound
pub mod Laws
