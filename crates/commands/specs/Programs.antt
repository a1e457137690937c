-- The program of a request, as it is made.
use Rattle.std.specs.Prelude.{◌≡◌, Ok}
use Rattle.matrix_meaning.specs.declared.Request.{Request}
use Rattle.icode.specs.Actions.{plain_code}
use Rattle.icode.specs.Machine.{Code}
use Rattle.icode.specs.Program.{plain_program}
use Rattle.icode.specs.declared.program.Program.{Program}
use Rattle.generate.specs.Emission.Whole.{emission}
use Rattle.generate.specs.Planned.{IsPlanned}
use Rattle.tree_model.specs.Breakdown.{Breakdown}

-- the program of the chosen tree
abbrev pub IsProgramFor : Request → Program → Type 0
IsProgramFor request program =
    (tree : Breakdown) × IsPlanned request (Ok tree) × (plain_program program ≡ emission request tree)

-- its code
abbrev pub IsCodeFor : Request → Code → Type 0
IsCodeFor request code =
    (tree : Breakdown) × IsPlanned request (Ok tree) × (code ≡ plain_code (emission request tree))
