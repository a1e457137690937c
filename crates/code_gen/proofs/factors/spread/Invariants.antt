use Rattle.std.proofs.Common.{◌≡◌, length, slice_index}
use Rattle.index_fn.specs.Mapping.{at}
use Rattle.operators.specs.Sum.{list_below}
use Rattle.sigma_spl.specs.Nest.{inner_of}
use Rattle.code_gen.proofs.factors.spread.Given as goal

-- the factors so far
abbrev pub invariant-loop-place : goal.invariant-loop-place
invariant-loop-place l = l.items.items ≡ list_below l.place (λ i. slice_index l.inner (at (inner_of l.path (length l.inner)) i))
