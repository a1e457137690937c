pub mod Law
pub mod Numbers
pub mod Seen
pub mod Steps
