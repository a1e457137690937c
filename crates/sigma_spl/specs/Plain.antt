pub mod Copies
pub mod Shape
