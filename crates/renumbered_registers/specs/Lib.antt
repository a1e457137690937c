pub mod Renumbered
pub mod Laws
pub mod Views
