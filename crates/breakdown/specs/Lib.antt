pub mod Expansion
pub mod Law
