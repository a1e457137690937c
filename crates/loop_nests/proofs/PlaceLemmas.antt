pub mod Sums
pub mod Passes
pub mod Changes
pub mod Carries
