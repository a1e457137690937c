use Rattle.code_check.proofs.Counting.{IsCount}
use Rattle.code_check.proofs.count.+count_of.Given as goal

abbrev pub invariant-loop-inner : goal.invariant-loop-inner
invariant-loop-inner l = IsCount l.limit l.sum l.inner-index l.inner-items
