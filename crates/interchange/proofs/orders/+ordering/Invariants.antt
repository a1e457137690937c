use Rattle.std.specs.Prelude.{◌+◌, ◌*◌}
use Rattle.icode.specs.Plain.{NoStmts, AndStmts, plain_stmt, plain_body}
use Rattle.nests.specs.Views.{loops_in}
use Rattle.interchange.proofs.orders.+ordering.Given as goal

abbrev pub decreases-order_both : goal.decreases-order_both
decreases-order_both l = 3 * loops_in (plain_body l.inside.now) + 2

abbrev pub decreases-order : goal.decreases-order
decreases-order l = 3 * loops_in (plain_body l.body.now) + 1

abbrev pub decreases-order_around : goal.decreases-order_around
decreases-order_around l = 3 * loops_in (AndStmts (plain_stmt l.only.now) NoStmts)
