use Rattle.std.specs.Prelude.{◌+◌, ◌*◌}
use Rattle.icode.specs.Plain.{NoStmts, AndStmts, plain_stmt, plain_body}
use Rattle.nests.specs.Views.{loops_in}
use Rattle.interchange.proofs.orders.+sinking.Given as goal

abbrev pub decreases-sink : goal.decreases-sink
decreases-sink l = 3 * loops_in (plain_body l.inside.now) + 2

abbrev pub decreases-sink_further : goal.decreases-sink_further
decreases-sink_further l = 3 * loops_in (plain_body l.body.now) + 1

abbrev pub decreases-sink_around : goal.decreases-sink_around
decreases-sink_around l = 3 * loops_in (AndStmts (plain_stmt l.only.now) NoStmts)
