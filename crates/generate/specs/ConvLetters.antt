-- The program of a convolution, statement by statement.
use Rattle.std.specs.Prelude.{ℕ, List}
use Rattle.sigma_lower.specs.Merged.{tree_merged}
use Rattle.icode.specs.Plain.{PlainProgram}
use Rattle.matrix_meaning.specs.Parts.{inverted}
use Rattle.loop_merge.specs.JoinedPasses.InOnePhase.{joined}
use Rattle.matrix_meaning.specs.declared.Request.{Request}
use Rattle.code_gen.specs.PassCode.Program.{program_of}
use Rattle.sigma_spl.specs.Merged.{PlainMerged}
use Rattle.tree_model.specs.Breakdown.{Breakdown}
use Rattle.sigma_spl.specs.Shared.Targets.{target_of}
use Rattle.generate.specs.Factors.{factors_of}

-- the passes of the tree, a diagonal, and the passes of the tree by the inverse root
abbrev pub conv_merged : Request → Breakdown → List ℕ → PlainMerged
conv_merged r t ds = joined (tree_merged r t) ds (tree_merged (inverted r) t)

-- the program of these passes, where the diagonal is that of the list
abbrev pub conv_program : Request → Breakdown → List ℕ → PlainProgram
conv_program r t h = program_of (target_of r) (conv_merged r t (factors_of r h))
