pub mod CommandLine
pub mod Names
pub mod Asked
pub mod Views
