pub mod Blocks
pub mod Fused
pub mod Laws
