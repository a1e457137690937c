use Rattle.std.proofs.Common.{arith}
use Rattle.two_tables.specs.Views.{plain_split}
use Rattle.two_tables.proofs.Pushed.{body-pushed}
use Rattle.two_tables.proofs.split.split_body.Goals as goal

pub returns : goal.returns
returns c =
    body-pushed (plain_split c.args.split) c.loop-stmt.stmt-index c.args.body.now c.loop-stmt.made.items (omega arith) c.loop-stmt.invariant
