pub mod Tensors
pub mod Loop
