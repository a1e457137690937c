pub mod Computes
pub mod Laws
