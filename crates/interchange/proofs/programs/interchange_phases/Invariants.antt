use Rattle.std.proofs.Common.{Vec, Global}
use Rattle.icode.specs.declared.program.Stmt.{Stmt}
use Rattle.icode.specs.Plain.{plain_body}
use Rattle.interchange.specs.Interchanged.{interchanged_body}
use Rattle.nests.proofs.Items.{AreChanged}
use Rattle.interchange.proofs.programs.interchange_phases.Given as goal

abbrev pub invariant-loop-body : goal.invariant-loop-body
invariant-loop-body l = AreChanged (λ (body : Vec Stmt Global). plain_body body.items) (interchanged_body l.lanes) l.body-index l.fn.phases l.phases
