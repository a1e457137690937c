pub mod Phases
pub mod Means
pub mod Programs
pub mod Counts
