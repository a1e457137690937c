use Rattle.std.specs.Prelude.{◌≡◌, [], ◌∷◌, ◌++◌, map}
use Rattle.std.proofs.Common.{◌<◌, ap, ap₂, ◌∙◌, arith}
use Rattle.sigma_lower.specs.OnePhase.{formula_sigma}
use Rattle.sigma_lower.proofs.FormulaPasses.Plain.{formula_is_sigma}
use Rattle.sigma_lower.proofs.Formulas.{can_merge, counts_the_same, does_the_same, one_phase}
use Rattle.sigma_spl.specs.Sigma.{PlainSigma}
use Rattle.sigma_spl.specs.Views.{plain_term}
use Rattle.sigma_lower.proofs.formula.lower_formula.Goals as goal

positive : (c : goal.In_ok-push) → 0 < c.args.modulus.now
positive c = let large = c.get-modulus.ensures.at_least_two in omega (arith, large)

abbrev made : goal.In_ok-push → PlainSigma
made c = one_phase c.rows-size.result (map plain_term c.push.new.self.items)

form : (c : goal.In_ok-push) → made c ≡ formula_sigma c.args.modulus.now c.args.formula.now
form c =
    let pushed = c.in_ok-push.ensures.items ∙ ap (λ ts. ts ++ c.in_ok-whole.whole ∷ []) c.new-phases.ensures.items in
    ap₂ one_phase c.rows-size.ensures.value (ap (map plain_term) pushed ∙ ap (λ t. t ∷ []) c.in_ok-whole.ensures)

pub returns-clause-meaning : goal.returns-clause-meaning
returns-clause-meaning c =
    does_the_same c.args.modulus.now c.args.formula.now (made c) (positive c) c.rows-size.ensures.shaped (form c)

pub returns-clause-good : goal.returns-clause-good
returns-clause-good c =
    can_merge c.args.modulus.now c.args.formula.now (made c) (positive c) c.rows-size.ensures.shaped (form c)

pub returns-clause-operations : goal.returns-clause-operations
returns-clause-operations c =
    counts_the_same c.args.modulus.now c.args.formula.now (made c) (positive c) c.rows-size.ensures.shaped (form c)

pub returns-clause-formula : goal.returns-clause-formula
returns-clause-formula c = λ few.
    let modulus = c.get-modulus.ensures in
    formula_is_sigma c.args.modulus.now c.args.formula.now (made c) modulus.at_least_two modulus.below_limit
    c.rows-size.ensures.shaped few (form c)
