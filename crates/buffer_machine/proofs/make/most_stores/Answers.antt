use Rattle.std.proofs.Common.{arith}
use Rattle.buffer_machine.proofs.Lens.{most_more, most_all}
use Rattle.buffer_machine.proofs.make.most_stores.Goals as goal

pub loop-phase-preserved : goal.loop-phase-preserved
loop-phase-preserved c =
    most_more c.args.program.now c.loop-phase.most c.larger-most.result c.stores.result c.loop-phase.phase c.loop-phase.invariant c.stores.ensures.each c.larger-most.ensures.left c.larger-most.ensures.right
    (c.larger-most.ensures.least _ c.loop-phase.invariant.few c.stores.ensures.few)

pub returns-clause-each : goal.returns-clause-each
returns-clause-each c =
    let p = c.args.program.now in
    most_all p c.loop-phase.most c.loop-phase.phase (omega (arith, c.len-phase-end.ensures, p.phases.ok.0)) c.loop-phase.invariant
