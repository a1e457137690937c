use Rattle.icode.specs.Program.{plain_program}
use Rattle.code_check.proofs.Whole.{IsCheckedTo}
use Rattle.code_check.proofs.check.judge.Given as goal

abbrev pub invariant-loop-phase : goal.invariant-loop-phase
invariant-loop-phase l = IsCheckedTo (plain_program l.program) l.phase l.shared
