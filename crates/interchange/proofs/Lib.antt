pub mod Exchanged
pub mod Interchanged
pub mod Law
pub mod Limited
pub mod Sunk
pub mod Turned
