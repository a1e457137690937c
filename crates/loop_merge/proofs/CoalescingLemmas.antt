pub mod Alike
pub mod Joining
pub mod Loops
pub mod Passes
pub mod Words
