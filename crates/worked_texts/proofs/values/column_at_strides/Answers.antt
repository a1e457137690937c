use Rattle.std.proofs.Common.{◌≤◌, [], ◌∷◌, arith}
use Rattle.std.specs.Prelude.{slice_index}
use Rattle.perm_algebra.proofs.PartLaws.{in_range_at}
use Rattle.worked_texts.proofs.values.column_at_strides.Goals as goal

pub simplify-requires-clause-fits : goal.simplify-requires-clause-fits
simplify-requires-clause-fits c = λ vs range.
    let row : vs 0 ≤ 1 = in_range_at (slice_index (2 ∷ 3 ∷ [])) vs 0 range in
    let column : vs 1 ≤ 2 = in_range_at (slice_index (2 ∷ 3 ∷ [])) vs 1 range in
    rw (c.in_ok-column.ensures.ok, c.in_ok-end.ensures.ok) (omega arith)

pub simplify-requires-clause-defined : goal.simplify-requires-clause-defined
simplify-requires-clause-defined c = λ vs range.
    let row : vs 0 ≤ 1 = in_range_at (slice_index (2 ∷ 3 ∷ [])) vs 0 range in
    let column : vs 1 ≤ 2 = in_range_at (slice_index (2 ∷ 3 ∷ [])) vs 1 range in
    rw (c.in_ok-column.ensures.ok, c.in_ok-end.ensures.ok) (omega arith)
