pub mod SharedPasses
pub mod Merge
pub mod Laws
pub mod Placed
pub mod Nests
pub mod Limits
