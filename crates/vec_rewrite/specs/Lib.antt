pub mod Vectors
pub mod Turning
pub mod Views
pub mod Laws
