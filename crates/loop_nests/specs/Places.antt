pub mod Views
pub mod Known
pub mod Sums
pub mod Sides
pub mod Changes
pub mod Multiplied
