use Rattle.matrix_meaning.proofs.Tensors.{dimension_by_dimension}
use Rattle.matrix_meaning.proofs.laws.dimension_by_dimension.Goals as goal

pub returns : goal.returns
returns c = dimension_by_dimension
