pub mod Processor
mod Phases
mod Apart
mod Lists
pub mod PhaseParts
mod FreshParts
pub mod FreshPhases
pub mod Performs
pub mod ReadyPrograms
pub mod PartShares
