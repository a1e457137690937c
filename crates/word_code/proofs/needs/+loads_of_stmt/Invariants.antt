use Rattle.word_code.proofs.Needing.{AreLoads}
use Rattle.word_code.proofs.needs.+loads_of_stmt.Given as goal

abbrev pub invariant-loop-inner : goal.invariant-loop-inner
invariant-loop-inner l = AreLoads l.inner-index l.inner-items l.loads
