use Rattle.std.proofs.Common.{◌≤◌, [], ◌∷◌, arith}
use Rattle.std.specs.Prelude.{slice_index}
use Rattle.perm_algebra.proofs.PartLaws.{in_range_at}
use Rattle.worked_texts.proofs.values.variable_at_strides.Goals as goal

pub simplify-requires-clause-fits : goal.simplify-requires-clause-fits
simplify-requires-clause-fits c = λ vs range.
    let below : vs 0 ≤ 5 = in_range_at (slice_index (6 ∷ [])) vs 0 range in rw c.in_ok-end.ensures.ok (omega arith)

pub simplify-requires-clause-defined : goal.simplify-requires-clause-defined
simplify-requires-clause-defined c = λ vs range.
    let below : vs 0 ≤ 5 = in_range_at (slice_index (6 ∷ [])) vs 0 range in rw c.in_ok-end.ensures.ok (omega arith)
