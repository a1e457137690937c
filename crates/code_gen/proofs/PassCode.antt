pub mod Writing
pub mod Coded
pub mod Emits
pub mod SharedTables
pub mod OneFactor
mod PlaceNumbers
pub mod Emitted
pub mod NestEmits
pub mod Limits
pub mod Within
pub mod TestedSums
pub mod ReadyNests
