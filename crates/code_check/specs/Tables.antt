-- The table of lines of a phase.
use Rattle.std.specs.Prelude.{ℕ, zero, suc, List, [], ◌∷◌, replicate}
use Rattle.icode.specs.Actions.{Step, steps_of_phase}
use Rattle.icode.specs.Plain.{PlainProgram}
use Rattle.code_check.specs.declared.lines.LineUse.{LineUse}
use Rattle.code_check.specs.Uses.{unused, noted, line_count}

-- the table after q has done the steps
abbrev pub noted_all : PlainProgram → ℕ → List Step → List LineUse → List LineUse
noted_all p q [] table = table
noted_all p q (s ∷ steps) table = noted_all p q steps (noted p q s table)

-- the table after the first n processors have done their steps of the phase
abbrev pub phase_table : PlainProgram → ℕ → ℕ → List LineUse
phase_table p phase zero = replicate (line_count p) unused
phase_table p phase (suc n) = noted_all p n (steps_of_phase p phase n) (phase_table p phase n)
