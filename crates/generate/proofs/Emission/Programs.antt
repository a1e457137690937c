-- The program of each tree is its emission, and so is that of each convolution.
use Rattle.std.proofs.Common.{inl, inr}
use Rattle.std.proofs.lemmas.Bool.{cases_Bool}
use Rattle.tree_model.specs.Cost.{is_plain}
use Rattle.generate.specs.EmittedPrograms.{ConvProgramsAreEmissions, ProgramsAreEmissions}
use Rattle.generate.proofs.ConvGoodness.{planned-valid}
use Rattle.generate.proofs.Emission.WholeTrees.{conv_emissions, plain_emission, shared_emission}

pub programs_are_emissions : ProgramsAreEmissions
programs_are_emissions r t valid tree = elim (cases_Bool (is_plain r)) [
  | inl plain ↦ plain_emission r t valid tree plain
  | inr shared ↦ shared_emission r t valid tree shared
]

pub conv_programs_are_emissions : ConvProgramsAreEmissions
conv_programs_are_emissions r t h request planned =
    conv_emissions r t h request (planned-valid r t request planned) planned.2.tree
