-- The program of a formula, statement by statement.
use Rattle.std.specs.Prelude.{ℕ}
use Rattle.spl_ast.specs.Halves.Balanced.{balanced}
use Rattle.generate.specs.FormulaPasses.Computes.{formula_merged}
use Rattle.icode.specs.Plain.{PlainProgram}
use Rattle.sigma_spl.specs.Shared.Machine.{plain_machine}
use Rattle.code_gen.specs.PassCode.Program.{program_of}
use Rattle.spl_ast.specs.Formula.{Formula, size_of}

-- the program of the formula's merged passes, its direct sums as they stand
abbrev pub program_as_it_stands : ℕ → Formula → PlainProgram
program_as_it_stands m f = program_of (plain_machine (size_of f) m) (formula_merged m f)

-- the program of the formula with each of its direct sums in halves
abbrev pub program_for : ℕ → Formula → PlainProgram
program_for m f = program_as_it_stands m (balanced f)
