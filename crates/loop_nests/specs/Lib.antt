pub mod Places
pub mod Limits
pub mod Views
pub mod Ready
pub mod Placed
pub mod NewNests
pub mod Lifted
pub mod Parts
