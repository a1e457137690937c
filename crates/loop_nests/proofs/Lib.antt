pub mod PlaceLemmas
pub mod LimitLemmas
pub mod Naming
pub mod Items
pub mod Lifting
pub mod Standing
pub mod Readies
pub mod Sided
