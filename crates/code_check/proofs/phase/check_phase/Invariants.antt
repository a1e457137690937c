use Rattle.icode.specs.Program.{plain_program}
use Rattle.code_check.proofs.Phases.{IsPhaseSoFar}
use Rattle.code_check.proofs.phase.check_phase.Given as goal

abbrev pub invariant-loop-proc : goal.invariant-loop-proc
invariant-loop-proc l = IsPhaseSoFar (plain_program l.program) l.phase l.proc l.lines.items
