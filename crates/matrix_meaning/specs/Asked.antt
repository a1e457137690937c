-- What a request asks for.
use Rattle.matrix_meaning.specs.declared.Request.{Request}
use Rattle.matrix_meaning.specs.Dimensions.{transform_in, sizes_of, roots_of}
use Rattle.operators.specs.Operator.{Operator}

-- its matrix times a list
abbrev pub asked_of : Request → Operator
asked_of r = transform_in r.kind r.modulus (sizes_of r) (roots_of r)
