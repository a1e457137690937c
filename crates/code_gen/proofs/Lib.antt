pub mod WholePrograms
pub mod PassCode
pub mod PassActions
mod PlainRules
mod CodeTables
mod Powers
mod StatementRules
mod Diagonals
mod KernelCodes
mod Passes
