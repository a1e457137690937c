pub mod ListedLemmas
pub mod OneExecution
pub mod Existence
