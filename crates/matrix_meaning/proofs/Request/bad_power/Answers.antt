use Rattle.std.proofs.Common.{ap, sym, ◌∙◌}
use Rattle.matrix_meaning.specs.Parts.{bad_power_by}
use Rattle.matrix_meaning.proofs.Requests.{none_valid}
use Rattle.matrix_meaning.proofs.Request.bad_power.Goals as goal

pub returns-in-Dft-clause-valid : goal.returns-in-Dft-clause-valid
returns-in-Dft-clause-valid c =
    none_valid c.args.self.now c.bad_power_of_parts.result c.requires
    (c.bad_power_of_parts.ensures ∙ ap (λ kind. bad_power_by kind c.args.self.now) (sym c.in-Dft.is))

pub returns-in-Idft-clause-valid : goal.returns-in-Idft-clause-valid
returns-in-Idft-clause-valid c =
    none_valid c.args.self.now c.bad_power_of_parts-in-Idft.result c.requires
    (c.bad_power_of_parts-in-Idft.ensures ∙ ap (λ kind. bad_power_by kind c.args.self.now) (sym c.in-Idft.is))
