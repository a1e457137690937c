use Rattle.icode.specs.Plain.{plain_stmt}
use Rattle.interchange.specs.Views.{exchanged_stmt}
use Rattle.nests.proofs.Items.{AreChanged}
use Rattle.interchange.proofs.exchange.exchange_round.Given as goal

abbrev pub invariant-loop-stmt : goal.invariant-loop-stmt
invariant-loop-stmt l = AreChanged plain_stmt (exchanged_stmt l.depth) l.stmt-index l.fn.round l.round
