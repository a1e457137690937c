pub mod Sizes
pub mod Meaning
pub mod Nesting
pub mod Asked
mod Examples
