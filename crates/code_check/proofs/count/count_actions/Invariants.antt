use Rattle.code_check.proofs.Counting.{IsPhaseCount}
use Rattle.code_check.proofs.count.count_actions.Given as goal

abbrev pub invariant-loop-body : goal.invariant-loop-body
invariant-loop-body l = IsPhaseCount l.program l.limit l.sum l.body-index
