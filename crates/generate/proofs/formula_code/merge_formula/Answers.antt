use Rattle.std.proofs.Common.{ap, ◌∙◌}
use Rattle.generate.specs.FormulaCode.Coalesced.{phases_coalesced}
use Rattle.generate.proofs.FormulaCode.Programs.{formula_coalesced}
use Rattle.sigma_spl.specs.Sigma.{merged_of}
use Rattle.generate.proofs.formula_code.merge_formula.Goals as goal

pub returns : goal.returns
returns c =
    c.in_ok-coalesced.ensures
    ∙ ap phases_coalesced (c.in_ok-merged.ensures.merged ∙ ap merged_of c.in_ok-sigma.ensures.form)
    ∙ formula_coalesced c.args.modulus.now c.args.formula.now
