use Rattle.std.proofs.Common.{◌≡◌, ◌+◌, drop}
use Rattle.two_tables.specs.Factors.{ones}
use Rattle.two_tables.proofs.cuts.ones.Given as goal

abbrev pub invariant-loop-entry : goal.invariant-loop-entry
invariant-loop-entry l = record {
  rest : l.count + ones (drop l.entry-index l.entries) ≡ ones l.entries;
  so_far : l.count ≡ l.entry-index;
}
