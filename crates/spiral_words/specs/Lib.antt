pub mod Statuses
pub mod CommandLine
pub mod Asked
pub mod Refused
