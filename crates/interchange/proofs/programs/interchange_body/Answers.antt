use Rattle.std.proofs.Common.{◌∙◌, sym, ap, arith, map}
use Rattle.std.proofs.lemmas.List.{length-map}
use Rattle.icode.specs.Plain.{plain_stmt, body_of}
use Rattle.interchange.specs.Interchanged.{interchanged_nest}
use Rattle.nests.proofs.Items.{changed-more, changed-all, unchanged-item}
use Rattle.interchange.proofs.Sunk.{body-map, shallow-at}
use Rattle.interchange.proofs.programs.interchange_body.Goals as goal

pub interchange_nest-requires : goal.interchange_nest-requires
interchange_nest-requires c =
    shallow-at (map plain_stmt c.args.body.now) c.loop-stmt.stmt-index _ _ c.requires
    (unchanged-item plain_stmt (interchanged_nest c.args.lanes) c.loop-stmt.stmt-index c.args.body.now c.loop-stmt.body c.stmt-item.result (omega arith) c.stmt-item.is c.loop-stmt.invariant)
    (omega (arith, length-map c.args.body.now plain_stmt, c.loop-stmt-test.true))

pub loop-stmt-preserved : goal.loop-stmt-preserved
loop-stmt-preserved c =
    changed-more plain_stmt (interchanged_nest c.args.lanes) c.loop-stmt.stmt-index c.args.body.now c.loop-stmt.body c.stmt-item.result c.interchange_nest.new.stmt (omega arith) c.stmt-item.is c.interchange_nest.ensures c.loop-stmt.invariant

pub returns : goal.returns
returns c =
    ap body_of (changed-all plain_stmt (interchanged_nest c.args.lanes) c.loop-stmt.stmt-index c.args.body.now c.loop-stmt.body (omega (arith, c.loop-stmt.auto.body)) c.loop-stmt.invariant)
    ∙ sym (body-map c.args.lanes (map plain_stmt c.args.body.now))
