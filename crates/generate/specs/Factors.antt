-- The diagonal between both transforms of a convolution.
use Rattle.std.specs.Prelude.{ℕ, List}
use Rattle.matrix_meaning.specs.Convolution.{convolution_factor}
use Rattle.matrix_meaning.specs.declared.Request.{Request}
use Rattle.matrix_meaning.specs.Kind.{transform}
use Rattle.operators.specs.Operator.{Operator}
use Rattle.operators.specs.Sum.{list_below}

-- the transform by a request's root
abbrev pub root_transform : Request → Operator
root_transform r = transform r.kind r.modulus r.size r.root

-- the transform of a list, divided by the size
abbrev pub factors_of : Request → List ℕ → List ℕ
factors_of r h = list_below r.size (convolution_factor r.modulus r.size r.root h)
