use Rattle.std.proofs.Common.{length}
use Rattle.code_gen.proofs.program.+emit_phases.Given as goal

abbrev pub decreases-emit_phases : goal.decreases-emit_phases
decreases-emit_phases l = length l.phases.now
