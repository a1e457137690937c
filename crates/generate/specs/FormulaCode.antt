pub mod Code
pub mod Coalesced
pub mod Letters
