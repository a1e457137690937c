use Rattle.std.proofs.Common.{arith, Vec, Global}
use Rattle.std.proofs.lemmas.List.{length-map}
use Rattle.icode.specs.declared.program.Stmt.{Stmt}
use Rattle.icode.specs.Plain.{plain_body, plain_phases}
use Rattle.interchange.specs.Interchanged.{interchanged_body}
use Rattle.nests.proofs.Items.{changed-more, changed-all, unchanged-item}
use Rattle.interchange.proofs.Sunk.{all-shallow-at}
use Rattle.interchange.proofs.programs.interchange_phases.Goals as goal

pub interchange_phase-requires : goal.interchange_phase-requires
interchange_phase-requires c =
    all-shallow-at (plain_phases c.args.phases.now) c.loop-body.body-index _ _ c.requires
    (unchanged-item (λ (body : Vec Stmt Global). plain_body body.items) (interchanged_body c.args.lanes) c.loop-body.body-index c.args.phases.now c.loop-body.phases c.body-item.result (omega arith) c.body-item.is c.loop-body.invariant)
    (omega (arith, length-map c.args.phases.now (λ (body : Vec Stmt Global). plain_body body.items), c.loop-body-test.true))

pub loop-body-preserved : goal.loop-body-preserved
loop-body-preserved c =
    changed-more (λ (body : Vec Stmt Global). plain_body body.items) (interchanged_body c.args.lanes) c.loop-body.body-index c.args.phases.now c.loop-body.phases c.body-item.result c.interchange_phase.new.body (omega arith) c.body-item.is c.interchange_phase.ensures c.loop-body.invariant

pub returns : goal.returns
returns c =
    changed-all (λ (body : Vec Stmt Global). plain_body body.items) (interchanged_body c.args.lanes) c.loop-body.body-index c.args.phases.now c.loop-body.phases (omega (arith, c.loop-body.auto.phases)) c.loop-body.invariant
