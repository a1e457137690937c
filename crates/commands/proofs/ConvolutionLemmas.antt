pub mod ConvolvedLemmas
pub mod Existence
pub mod OneConvolution
