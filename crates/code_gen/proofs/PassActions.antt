mod Finish
pub mod StraightCopies
mod Once
pub mod Copies
pub mod Fillings
pub mod Counting
pub mod Every
pub mod FreshCopies
pub mod PassesRun
