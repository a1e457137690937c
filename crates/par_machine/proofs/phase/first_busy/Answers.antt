use Rattle.std.proofs.Common.{arith, ap, sym, ◌∙◌}
use Rattle.par_machine.specs.declared.phase.Routine.{Routine}
use Rattle.par_machine.proofs.Phases.{skips, stops}
use Rattle.par_machine.proofs.phase.first_busy.Goals as goal

pub loop-phase-preserved : goal.loop-phase-preserved
loop-phase-preserved c = record {
  within = omega arith;
  same = λ code h procs. sym (skips code c.args.phases.now c.loop-phase.phase c.index-phases-phase.result h (omega arith) c.index-phases-phase.is (ap (λ (r : Routine). r.len) c.index-phases-phase.is ∙ c.if-phases-phase-eq0.true)) ∙ c.loop-phase.invariant.same code h procs;
}

pub returns-else-phases-phase-eq0-clause-first : goal.returns-else-phases-phase-eq0-clause-first
returns-else-phases-phase-eq0-clause-first c = λ code h procs.
    sym (stops code c.args.phases.now c.loop-phase.phase c.index-phases-phase.result h procs (omega arith) c.index-phases-phase.is (omega (arith, ap (λ (r : Routine). r.len) c.index-phases-phase.is))) ∙ c.loop-phase.invariant.same code h procs
