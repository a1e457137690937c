pub mod Expressions
pub mod Statements
pub mod Conditions
pub mod Program
pub mod Contract
pub mod Small
