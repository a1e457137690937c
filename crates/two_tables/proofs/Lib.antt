pub mod Cutting
pub mod Law
pub mod Products
pub mod Programs
pub mod Pushed
pub mod Registers
pub mod Within
