use Rattle.std.proofs.Common.{sym, ◌∙◌, arith}
use Rattle.two_tables.specs.Factored.{is_short}
use Rattle.two_tables.proofs.Cutting.{phase_passes, phase_fails}
use Rattle.two_tables.proofs.room.are_short.Goals as goal

pub returns-then-not-is_short : goal.returns-then-not-is_short
returns-then-not-is_short c =
    phase_fails is_short c.args.program.now.phases.items c.loop-phase.phase _ (omega (arith, c.loop-phase-test.true, c.len-phase-end.ensures)) (sym c.is_short.ensures ∙ c.if-not-is_short.true) c.loop-phase.invariant

pub loop-phase-preserved : goal.loop-phase-preserved
loop-phase-preserved c =
    phase_passes is_short c.args.program.now.phases.items c.loop-phase.phase _ (omega (arith, c.loop-phase-test.true, c.len-phase-end.ensures)) (sym c.is_short.ensures ∙ c.if-not-is_short.false) c.loop-phase.invariant
