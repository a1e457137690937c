use Rattle.std.proofs.Common.{take}
use Rattle.icode.specs.Plain.{plain_phases}
use Rattle.icode.specs.Program.{plain_program}
use Rattle.par_machine.specs.Translated.{AreTranslated}
use Rattle.par_machine.proofs.initial.compile_phases.Given as goal

abbrev pub invariant-loop-phase : goal.invariant-loop-phase
invariant-loop-phase l = AreTranslated (plain_program l.program) l.routines.items (take l.phase (plain_phases l.program.phases.items))
