use Rattle.std.proofs.Common.{◌∙◌, sym, ap, arith, map}
use Rattle.icode.specs.Plain.{plain_stmt, body_of}
use Rattle.interchange.specs.Views.{exchanged_stmt}
use Rattle.nests.proofs.Items.{changed-more, changed-all}
use Rattle.interchange.proofs.Sunk.{round-map}
use Rattle.interchange.proofs.exchange.exchange_round.Goals as goal

pub loop-stmt-preserved : goal.loop-stmt-preserved
loop-stmt-preserved c =
    changed-more plain_stmt (exchanged_stmt c.args.depth) c.loop-stmt.stmt-index c.args.round.now c.loop-stmt.round c.stmt-item.result c.exchange_stmt.new.stmt (omega arith) c.stmt-item.is c.exchange_stmt.ensures c.loop-stmt.invariant

pub returns : goal.returns
returns c =
    ap body_of (changed-all plain_stmt (exchanged_stmt c.args.depth) c.loop-stmt.stmt-index c.args.round.now c.loop-stmt.round (omega (arith, c.loop-stmt.auto.round)) c.loop-stmt.invariant)
    ∙ sym (round-map c.args.depth (map plain_stmt c.args.round.now))
