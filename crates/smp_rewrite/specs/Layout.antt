pub mod Tree
pub mod Step
pub mod Views
pub mod Meaning
pub mod Whole
