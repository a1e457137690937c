-- The program of a request, statement by statement.
use Rattle.sigma_lower.specs.Merged.{tree_merged}
use Rattle.icode.specs.Plain.{PlainProgram}
use Rattle.matrix_meaning.specs.declared.Request.{Request}
use Rattle.code_gen.specs.PassCode.Program.{program_of}
use Rattle.tree_model.specs.Breakdown.{Breakdown}
use Rattle.sigma_spl.specs.Shared.Targets.{target_of}

-- the program of the tree's merged passes, on the request's machine
abbrev pub program_for : Request → Breakdown → PlainProgram
program_for r t = program_of (target_of r) (tree_merged r t)
