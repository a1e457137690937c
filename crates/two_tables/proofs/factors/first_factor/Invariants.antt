use Rattle.std.proofs.Common.{◌≡◌, ◌*◌}
use Rattle.std.specs.Prelude.{slice_index}
use Rattle.operators.specs.Sum.{list_below}
use Rattle.two_tables.proofs.factors.first_factor.Given as goal

abbrev pub invariant-loop-block : goal.invariant-loop-block
invariant-loop-block l = l.made.items ≡ list_below l.block (λ j. slice_index l.entries (j * l.cut.width))
