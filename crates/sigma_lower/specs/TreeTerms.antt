pub mod Wrapped
pub mod Term
pub mod Good
pub mod Root
