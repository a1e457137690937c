use Rattle.std.specs.Prelude.{◌≡◌}
use Rattle.index_fn.specs.Index.{mapping_of}
use Rattle.index_fn.specs.Mapping.{at}
use Rattle.operators.specs.Sum.{list_below}
use Rattle.loop_nests.proofs.nests.values.Given as goal

abbrev pub invariant-loop-i : goal.invariant-loop-i
invariant-loop-i l = l.values.items ≡ list_below l.i (at (mapping_of l.f))
