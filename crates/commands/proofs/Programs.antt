-- What is known of the program of a request's chosen tree.
use Rattle.std.proofs.Common.{◌≡◌, Ok, ap, ◌∙◌}
use Rattle.matrix_meaning.specs.Valid.{IsInRange}
use Rattle.matrix_meaning.specs.declared.Request.{Request}
use Rattle.icode.specs.Actions.{plain_code}
use Rattle.icode.specs.Machine.{Code}
use Rattle.icode.specs.Plain.{PlainProgram}
use Rattle.icode.specs.Program.{code_of}
use Rattle.icode.specs.declared.program.Program.{Program}
use Rattle.generate.proofs.GoodPrograms.{programs_are_good}
use Rattle.generate.specs.Good.{IsGood}
use Rattle.generate.specs.Lean.{IsLean}
use Rattle.generate.specs.Emission.Whole.{emission}
use Rattle.generate.specs.Planned.{IsPlanned}
use Rattle.tree_model.specs.Breakdown.{Breakdown}
use Rattle.tree_model.specs.Chosen.{whole_cost}
use Rattle.commands.specs.Programs.{IsCodeFor, IsProgramFor}

pub record IsGoodCode (request : Request) (code : Code) : Type 0 where
  pub tree : Breakdown
  pub planned : IsPlanned request (Ok tree)
  pub good : IsGood request (whole_cost request tree) (emission request tree)
  pub lean : IsLean request tree (emission request tree)
  pub is : code ≡ plain_code (emission request tree)

pub good_code : (request : Request) (code : Code) → IsInRange request → IsCodeFor request code → IsGoodCode request code
good_code request code in_range made =
    let known = programs_are_good request made.0 in_range made.1 in
    record { tree = made.0; planned = made.1; good = known.0; lean = known.1; is = made.2 }

pub code_made : (request : Request) (program : Program) → IsProgramFor request program →
    IsCodeFor request (code_of program)
code_made request program made = (made.0, made.1, ap plain_code made.2)

-- the program has the numbers of its request
pub program_size : (request : Request) (program : Program) → IsInRange request → IsProgramFor request program →
    program.size ≡ request.size
program_size request program in_range made =
    ap (λ (p : PlainProgram). p.size) made.2 ∙ (programs_are_good request made.0 in_range made.1).0.header.size

pub program_modulus : (request : Request) (program : Program) → IsInRange request → IsProgramFor request program →
    program.modulus ≡ request.modulus
program_modulus request program in_range made =
    ap (λ (p : PlainProgram). p.modulus) made.2 ∙ (programs_are_good request made.0 in_range made.1).0.header.modulus

pub program_procs : (request : Request) (program : Program) → IsInRange request → IsProgramFor request program →
    program.procs ≡ request.procs
program_procs request program in_range made =
    ap (λ (p : PlainProgram). p.procs) made.2 ∙ (programs_are_good request made.0 in_range made.1).0.header.procs
