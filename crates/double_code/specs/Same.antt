-- What a program on doubles leaves.
use Rattle.std.specs.Prelude.{◌≡◌, ℕ, ◌<◌, List, All, map, pos}
use Rattle.icode.specs.declared.program.Program.{Program}
use Rattle.icode.specs.Machine.{results}
use Rattle.icode.specs.Program.{code_of, Fits}
use Rattle.double_code.specs.declared.program.DoubleProgram.{DoubleProgram}
use Rattle.double_code.specs.DoubleMachine.{double_results}
use Rattle.double_code.specs.DoubleProgram.{double_code}
use Rattle.double_code.specs.Views.{plain_double_program}

-- whatever the vector of residues and the order of turns, it is what the program leaves
abbrev pub LeavesTheSame : DoubleProgram → Program → Type 0
LeavesTheSame doubles p =
    Fits p → (x turns : List ℕ) → All (λ v. v < p.modulus) x →
    double_results (double_code (plain_double_program doubles)) x turns ≡ map pos (results (code_of p) x turns)
