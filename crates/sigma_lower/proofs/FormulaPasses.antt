pub mod Merging
pub mod Counted
pub mod Costs
pub mod Plain
