pub mod Multiplied
pub mod Views
