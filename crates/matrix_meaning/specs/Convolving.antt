-- Which requests ask for a cyclic convolution.
use Rattle.std.specs.Prelude.{◌≡◌}
use Rattle.std.specs.Int.{IsGcd}
use Rattle.matrix_meaning.specs.declared.Dimensions.TheVariants.{One}
use Rattle.matrix_meaning.specs.declared.Kind.TheVariants.{Dft}
use Rattle.matrix_meaning.specs.declared.Request.{Request}
use Rattle.matrix_meaning.specs.Valid.{IsInRange}

-- a request for the Fourier transform by which to convolve: on one processor and one lane, and its size has an inverse
pub record IsConvRequest (r : Request) : Type 0 where
  pub in_range : IsInRange r
  pub kind : r.kind ≡ Dft
  pub dimensions : r.dimensions ≡ One
  pub procs : r.procs ≡ 1
  pub line : r.line ≡ 1
  pub lanes : r.lanes ≡ 1
  pub unit : IsGcd r.size r.modulus 1
