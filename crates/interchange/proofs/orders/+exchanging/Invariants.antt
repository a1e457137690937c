use Rattle.std.specs.Prelude.{◌+◌, ◌*◌}
use Rattle.icode.specs.Plain.{NoStmts, AndStmts, plain_stmt, plain_body}
use Rattle.nests.specs.Views.{loops_in}
use Rattle.interchange.proofs.orders.+exchanging.Given as goal

abbrev pub decreases-exchange_only : goal.decreases-exchange_only
decreases-exchange_only l = 2 * loops_in (AndStmts (plain_stmt l.only.now) NoStmts)

abbrev pub decreases-exchange_innermost : goal.decreases-exchange_innermost
decreases-exchange_innermost l = 2 * loops_in (plain_body l.body.now) + 1
