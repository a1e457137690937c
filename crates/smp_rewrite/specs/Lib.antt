pub mod Layout
pub mod Smp
pub mod Walk
pub mod Appends
pub mod Cut
pub mod Views
pub mod Fits
pub mod Laws
