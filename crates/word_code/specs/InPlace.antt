pub mod Homes
pub mod Accesses
pub mod Routes
pub mod Routing
pub mod Sharing
pub mod Views
pub mod Laws
