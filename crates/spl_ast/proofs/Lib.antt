pub mod Blocks
pub mod Contexts
pub mod Distributing
pub mod Residues
pub mod Vectors
pub mod HalvesLemmas
