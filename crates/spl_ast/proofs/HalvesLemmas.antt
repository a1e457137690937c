pub mod Grouping
pub mod Depths
pub mod Lists
pub mod Sums
pub mod Balanced
