use Rattle.std.proofs.Common.{◌≡◌}
use Rattle.matrix_meaning.specs.Laws.{twiddle}
use Rattle.operators.specs.Sum.{list_below}
use Rattle.code_gen.proofs.factors.twiddles.Given as goal

-- the factors so far
abbrev pub invariant-loop-place : goal.invariant-loop-place
invariant-loop-place l = l.items.items ≡ list_below l.place (twiddle l.modulus l.cols l.fn.root)
