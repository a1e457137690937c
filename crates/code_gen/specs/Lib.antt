pub mod PassCode
pub mod PassActions
pub mod Views
pub mod Conditions
pub mod Bodies
pub mod Additions
pub mod Sequences
pub mod Machines
