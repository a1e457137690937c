pub mod Asked
pub mod ConvolutionLaw
pub mod CooleyTukey
mod Digits
mod Examples
mod GeometricSums
pub mod GoodThomas
pub mod InverseTransform
pub mod Parts
mod PowerSums
pub mod Requests
pub mod Roots
pub mod Tensors
pub mod Undoing
mod Units
pub mod WalshHadamard
