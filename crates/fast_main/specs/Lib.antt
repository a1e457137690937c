pub mod Options
pub mod Words
pub mod Lines
pub mod FirstLine
pub mod Translation
pub mod Rows
pub mod Status
pub mod Outcome
