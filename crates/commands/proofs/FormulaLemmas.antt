pub mod CompiledLemmas
pub mod OneFormula
pub mod Written
pub mod Shaped
pub use Rattle.generate.proofs.FormulaCode.Programs
