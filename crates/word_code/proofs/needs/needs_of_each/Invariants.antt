use Rattle.word_code.proofs.Needing.{AreNeeded}
use Rattle.word_code.proofs.needs.needs_of_each.Given as goal

abbrev pub invariant-loop-behind : goal.invariant-loop-behind
invariant-loop-behind l = AreNeeded l.behind l.body l.each.items l.needs
