pub mod Rooms
pub mod Fitting
pub mod Vectors
pub mod Stores
pub mod Copies
pub mod Steps
