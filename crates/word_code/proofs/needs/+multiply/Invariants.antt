use Rattle.word_code.proofs.Needing.{IsLeft}
use Rattle.word_code.proofs.needs.+multiply.Given as goal

abbrev pub invariant-multiply-loop-stmt : goal.invariant-multiply-loop-stmt
invariant-multiply-loop-stmt l = IsLeft l.stmt-index l.body l.last
