pub mod Law
pub mod Onto
pub mod Programs
pub mod SameBlocks
pub mod Seen
pub mod Steps
pub mod Within
