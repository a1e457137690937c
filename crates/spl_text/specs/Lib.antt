pub mod Spelling
pub mod Fault
pub mod Arguments
pub mod Reading
pub mod Answer
pub mod Reader
pub mod Laws
