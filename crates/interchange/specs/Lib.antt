pub mod Exchanged
pub mod Interchanged
pub mod Laws
pub mod Views
