-- What a program on doubles leaves.
use Rattle.std.proofs.Common.{◌≡◌, ◌^◌, ◌<◌, ap, ◌∙◌, arith}
use Rattle.icode.specs.declared.program.Program.{Program}
use Rattle.icode.specs.Program.{plain_program}
use Rattle.double_code.specs.declared.program.DoubleProgram.{DoubleProgram}
use Rattle.double_code.specs.DoubleMachine.{double_results}
use Rattle.double_code.specs.DoubleProgram.{double_code}
use Rattle.double_code.specs.Doubled.{doubled}
use Rattle.double_code.specs.Same.{LeavesTheSame}
use Rattle.double_code.specs.Views.{plain_double_program}
use Rattle.double_code.proofs.Programs.{doubled_is_same}

pub same_from : (doubles : DoubleProgram) (p : Program) → plain_double_program doubles ≡ doubled (plain_program p) →
    p.modulus < 2 ^ 50 → LeavesTheSame doubles p
same_from doubles p made below fits x turns low =
    ap (λ w. double_results (double_code w) x turns) made
    ∙ doubled_is_same (plain_program p) fits (let a = p.header.of_modulus.0 in omega arith) below p.header.of_line.0 x
    turns low
