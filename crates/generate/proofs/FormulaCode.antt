pub mod Balanced
pub mod Programs
pub mod Regrouped
