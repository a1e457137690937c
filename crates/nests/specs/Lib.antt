pub mod InPlace
pub mod Nests
pub mod Places
pub mod Rounds
pub mod Views
