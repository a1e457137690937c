pub mod Compiled
pub use Rattle.generate.specs.FormulaCode.Code
pub use Rattle.generate.specs.FormulaCode.Letters
