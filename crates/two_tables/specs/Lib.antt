pub mod Factored
pub mod Factors
pub mod Laws
pub mod Places
pub mod Views
