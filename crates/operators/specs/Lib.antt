pub mod Identities
pub mod Loop
pub mod Operator
pub mod Sizes
pub mod Sum
pub mod Paths
