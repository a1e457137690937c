-- The programs of requests and of convolutions are good.
use Rattle.std.proofs.Common.{◌^◌, ◌≤◌, length, subst}
use Rattle.icode.specs.Limits.{IsWithinLimits}
use Rattle.icode.specs.Plain.{PlainProgram}
use Rattle.matrix_meaning.proofs.Requests.{valid_by_powers}
use Rattle.sigma_lower.specs.Merged.{tree_merged}
use Rattle.sigma_spl.specs.Shared.Targets.{target_of}
use Rattle.code_gen.proofs.WholePrograms.Performs.{programs_perform}
use Rattle.code_gen.proofs.WholePrograms.ReadyPrograms.{ready_can_program}
use Rattle.generate.specs.ConvLetters.{conv_merged, conv_program}
use Rattle.generate.specs.Convolver.{IsConvolver}
use Rattle.generate.specs.Factors.{factors_of}
use Rattle.generate.specs.Good.{IsGood}
use Rattle.generate.specs.GoodPrograms.{ConvProgramsConvolve, ProgramsAreGood}
use Rattle.generate.specs.Lean.{IsLean}
use Rattle.generate.specs.Letters.{program_for}
use Rattle.tree_model.specs.Chosen.{whole_cost}
use Rattle.generate.proofs.ConvGoodness.{can-convolve, is-convolver, planned-valid}
use Rattle.generate.proofs.Emission.Programs.{conv_programs_are_emissions, programs_are_emissions}
use Rattle.generate.proofs.Performed.{good, lean}
use Rattle.generate.proofs.TreePasses.Merged.{trees_are_merged}

pub programs_are_good : ProgramsAreGood
programs_are_good r t range planned =
    let valid = valid_by_powers r range planned.0 in
    let h = planned.1.tree in
    let can = ready_can_program (target_of r) (tree_merged r t) (trees_are_merged r t valid h).ready in
    let performs = programs_perform (target_of r) (tree_merged r t) can in
    let same = programs_are_emissions r t valid h in (
      subst (IsGood r (whole_cost r t)) same (good r t (program_for r t) valid h performs),
      subst (IsLean r t) same (lean r t (program_for r t) valid h performs),
      subst IsWithinLimits same performs.limits,
      subst (λ (p : PlainProgram). length p.tables ≤ 2 ^ 64) same performs.tables,
    )

pub conv_programs_convolve : ConvProgramsConvolve
conv_programs_convolve r t h request planned =
    let valid = planned-valid r t request planned in
    let ready = can-convolve r t h request valid planned.2.tree in
    let g = conv_merged r t (factors_of r h) in
    subst (IsConvolver r t h) (conv_programs_are_emissions r t h request planned)
    (is-convolver r t h request valid planned.2.tree (conv_program r t h)
    (programs_perform (target_of r) g (ready_can_program (target_of r) g ready)) planned.1)
