use Rattle.std.proofs.Common.{arith, subst}
use Rattle.spl_ast.specs.Shape.{IsShaped}
use Rattle.spl_ast.proofs.Vectors.{shaped_size}
use Rattle.spl_ast.proofs.halves.+take_sum.Goals as goal

pub direct_sum-requires : goal.direct_sum-requires
direct_sum-requires t c = (
  omega (arith, shaped_size c.in_ok-second.second (subst IsShaped c.second.view_is c.second.invariant)),
  omega (arith, c.in_ok-first.ensures.rows, c.in_ok-second.ensures.rows, c.requires.rows),
)
