use Rattle.icode.specs.Plain.{plain_stmt}
use Rattle.interchange.specs.Interchanged.{interchanged_nest}
use Rattle.nests.proofs.Items.{AreChanged}
use Rattle.interchange.proofs.programs.interchange_body.Given as goal

abbrev pub invariant-loop-stmt : goal.invariant-loop-stmt
invariant-loop-stmt l = AreChanged plain_stmt (interchanged_nest l.lanes) l.stmt-index l.fn.body l.body
