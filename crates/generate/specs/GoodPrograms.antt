-- The programs of requests, of convolutions and of formulas are good.
use Rattle.std.specs.Prelude.{ℕ, ◌^◌, ◌<◌, ◌≤◌, List, length, Ok}
use Rattle.generate.specs.ConvPlanned.{IsConvPlanned}
use Rattle.generate.specs.Convolver.{IsConvolver}
use Rattle.generate.specs.Emission.Whole.{conv_emission, emission}
use Rattle.generate.specs.FormulaCode.Code.{IsCodeOf}
use Rattle.generate.specs.FormulaCode.Letters as formula
use Rattle.generate.specs.Good.{IsGood}
use Rattle.generate.specs.Lean.{IsLean}
use Rattle.generate.specs.Planned.{IsPlanned}
use Rattle.icode.specs.Limits.{IsWithinLimits}
use Rattle.matrix_meaning.specs.Convolving.{IsConvRequest}
use Rattle.matrix_meaning.specs.Valid.{IsInRange}
use Rattle.matrix_meaning.specs.declared.Request.{Request}
use Rattle.spl_ast.specs.Formula.{Formula, parts_of}
use Rattle.spl_ast.specs.Shape.{IsShaped}
use Rattle.tree_model.specs.Breakdown.{Breakdown}
use Rattle.tree_model.specs.Chosen.{whole_cost}

-- the program of a request's planned tree is good for the request, at the cost of the tree, and lean, and it stands
-- within the limits of listings, with no more tables than a word can count
abbrev pub ProgramsAreGood : Type 0
ProgramsAreGood =
    (r : Request) (t : Breakdown) → IsInRange r → IsPlanned r (Ok t) →
    IsGood r (whole_cost r t) (emission r t) × IsLean r t (emission r t) × IsWithinLimits (emission r t)
    × (length (emission r t).tables ≤ 2 ^ 64)

-- the program of a planned tree and a list is one for convolutions with the list
abbrev pub ConvProgramsConvolve : Type 0
ConvProgramsConvolve =
    (r : Request) (t : Breakdown) (h : List ℕ) → IsConvRequest r → IsConvPlanned r (Ok t) →
    IsConvolver r t h (conv_emission r t h)

-- the program of a formula is its code
abbrev pub FormulaProgramsAreCode : Type 0
FormulaProgramsAreCode =
    (m : ℕ) (f : Formula) → 2 ≤ m → m < 2 ^ 62 → IsShaped f → parts_of f ≤ 65536 →
    IsCodeOf m f (formula.program_for m f)
