-- The programs of requests and of convolutions are those of the rules of emission.
use Rattle.std.specs.Prelude.{◌≡◌, ℕ, List, Ok}
use Rattle.generate.specs.ConvLetters.{conv_program}
use Rattle.generate.specs.ConvPlanned.{IsConvPlanned}
use Rattle.generate.specs.Emission.Whole.{conv_emission, emission}
use Rattle.generate.specs.Letters.{program_for}
use Rattle.matrix_meaning.specs.Convolving.{IsConvRequest}
use Rattle.matrix_meaning.specs.Valid.{IsValid}
use Rattle.matrix_meaning.specs.declared.Request.{Request}
use Rattle.tree_model.specs.Breakdown.{Breakdown}
use Rattle.tree_model.specs.Chosen.{IsWholeTree}

-- the program of each tree that a valid request admits
abbrev pub ProgramsAreEmissions : Type 0
ProgramsAreEmissions = (r : Request) (t : Breakdown) → IsValid r → IsWholeTree r t → program_for r t ≡ emission r t

-- and that of each planned tree and a list
abbrev pub ConvProgramsAreEmissions : Type 0
ConvProgramsAreEmissions =
    (r : Request) (t : Breakdown) (h : List ℕ) → IsConvRequest r → IsConvPlanned r (Ok t) →
    conv_program r t h ≡ conv_emission r t h
