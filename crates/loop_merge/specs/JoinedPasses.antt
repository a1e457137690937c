pub mod InOnePhase
pub mod Laws
