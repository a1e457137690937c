use Rattle.std.proofs.Common.{◌∙◌, arith, sym}
use Rattle.buffer_machine.proofs.Loops.{busy_skip, busy_stop}
use Rattle.buffer_machine.proofs.settle.next_busy.Goals as goal

pub loop-phase-preserved : goal.loop-phase-preserved
loop-phase-preserved c = record {
  within = omega arith;
  same = sym (busy_skip c.args.lens.now c.loop-phase.phase (omega arith) c.if-lens-phase-eq0.true) ∙ c.loop-phase.invariant.same;
}

pub returns-else-lens-phase-eq0-clause-first : goal.returns-else-lens-phase-eq0-clause-first
returns-else-lens-phase-eq0-clause-first c =
    sym (busy_stop c.args.lens.now c.loop-phase.phase (omega arith) (omega (arith, c.if-lens-phase-eq0.false))) ∙ c.loop-phase.invariant.same
