use Rattle.code_check.proofs.Counting.{IsCount}
use Rattle.code_check.proofs.count.count_of_body.Given as goal

abbrev pub invariant-loop-stmt : goal.invariant-loop-stmt
invariant-loop-stmt l = IsCount l.limit l.sum l.stmt-index l.body
