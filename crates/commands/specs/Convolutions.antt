pub mod Convolved
pub use Rattle.matrix_meaning.specs.Convolution
pub use Rattle.matrix_meaning.specs.Convolving
pub use Rattle.generate.specs.Convolver
pub use Rattle.generate.specs.ConvPlanned
