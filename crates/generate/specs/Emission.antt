pub mod Places
pub mod Passes
pub mod Root
pub mod Tables
pub mod Bodies
pub mod Program
pub mod Whole
pub mod Worked
