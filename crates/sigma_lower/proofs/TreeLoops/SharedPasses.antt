pub mod Naturals
pub mod Merging
pub mod Lanes
pub mod Framed
pub mod Shares
pub mod Owners
pub mod Phases
