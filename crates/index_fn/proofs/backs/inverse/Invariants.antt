use Rattle.std.specs.Prelude.{◌≡◌}
use Rattle.index_fn.specs.Back.{inverse_below}
use Rattle.index_fn.proofs.backs.inverse.Given as goal

abbrev pub invariant-loop-b : goal.invariant-loop-b
invariant-loop-b l = l.found ≡ inverse_below l.r l.s l.b
