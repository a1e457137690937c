use Rattle.std.proofs.Common.{◌≡◌, ◌+◌, ◌*◌, ◌/◌, ◌%◌}
use Rattle.std.specs.Prelude.{slice_index}
use Rattle.operators.specs.Sum.{list_below}
use Rattle.two_tables.proofs.factors.second_factor.Given as goal

abbrev pub invariant-loop-place : goal.invariant-loop-place
invariant-loop-place l =
    l.made.items ≡ list_below l.place (λ j. slice_index l.entries (j / l.cut.width * l.cut.across * l.cut.width + j % l.cut.width))
