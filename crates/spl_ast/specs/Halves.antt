pub mod Depth
pub mod Rows
pub mod Summands
pub mod Balanced
pub mod Taken
