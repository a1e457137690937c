use Rattle.std.specs.Prelude.{◌≡◌}
use Rattle.index_fn.specs.Back.{unit_below}
use Rattle.index_fn.proofs.backs.unit.Given as goal

abbrev pub invariant-loop-k : goal.invariant-loop-k
invariant-loop-k l = l.found ≡ unit_below l.r l.s l.k
