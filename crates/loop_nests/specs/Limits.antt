pub mod Contract
pub mod Leading
pub mod Mixes
pub mod Outcomes
