pub mod Rest
pub mod Part
pub mod FeedFaults
