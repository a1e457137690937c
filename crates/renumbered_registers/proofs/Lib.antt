pub mod Given
pub mod Alike
pub mod Sources
pub mod Renaming
pub mod Within
pub mod Law
pub mod Steps
