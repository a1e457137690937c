pub mod Machine
pub mod Targets
pub mod Costs
pub mod Kernels
pub mod Running
pub mod Owners
pub mod Names
pub mod Ready
