pub mod Coalesced
pub mod Laws
pub mod Views
