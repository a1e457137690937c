pub mod Lasts
pub mod Means
pub mod ReadyLasts
pub mod Counts
pub mod InOrder
