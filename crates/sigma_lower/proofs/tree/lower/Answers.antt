use Rattle.std.proofs.Common.{◌≡◌, ap, ◌∙◌, map, subst, sym}
use Rattle.sigma_lower.specs.Machine.{IsMachine}
use Rattle.sigma_lower.specs.Merged.{closed_phases, phase_costs, sigma_of}
use Rattle.sigma_lower.proofs.Costs.{vec_costs}
use Rattle.sigma_lower.proofs.Roomy.{all_roomy}
use Rattle.sigma_lower.proofs.Sigmas.{of_phases, vec_can_merge, vec_means}
use Rattle.sigma_lower.proofs.TreeLayouts.{machine_of}
use Rattle.sigma_lower.proofs.TreeSigmas.Laws.{trees_are_sigmas}
use Rattle.sigma_spl.specs.Sigma.{IsGoodSigma, sigma_on}
use Rattle.sigma_spl.specs.Trees.{IsTreeSigma}
use Rattle.sigma_spl.specs.Views.{plain_term}
use Rattle.sigma_lower.proofs.TreeTerms.Goods.{phases_good}
use Rattle.sigma_spl.specs.Shared.Targets.{target_of}
use Rattle.vec_rewrite.specs.Views.{plain_vec}
use Rattle.sigma_lower.proofs.tree.lower.Goals as goal

pub phases-requires-clause-first : goal.phases-requires-clause-first
phases-requires-clause-first c =
    let h = target_of c.args.c.now in
    let vectors = c.args.vectors in
    all_roomy h vectors.target.procs vectors.target.lanes vectors.first.items (machine_of c.args.c.now c.request-request.ensures.valid) (phases_good h (plain_vec vectors) c.requires).0

pub phases-requires-clause-second : goal.phases-requires-clause-second
phases-requires-clause-second c =
    let h = target_of c.args.c.now in
    let vectors = c.args.vectors in
    all_roomy h vectors.target.procs vectors.target.lanes vectors.second.items (machine_of c.args.c.now c.request-request.ensures.valid) (phases_good h (plain_vec vectors) c.requires).1

-- ---- the result

machine : (c : goal.In_ok-phases) → IsMachine (target_of c.args.c.now)
machine c = machine_of c.args.c.now c.request-request.ensures.valid

form : (c : goal.In_ok-phases) →
    of_phases c.args.vectors.target (map plain_term c.in_ok-phases.phases.items) ≡ sigma_of (plain_vec c.args.vectors)
form c =
    let vectors = c.args.vectors in
    ap (of_phases vectors.target)
    (c.in_ok-phases.ensures ∙ ap (closed_phases vectors.target.size vectors.closing) c.in_ok-made.ensures)

pub returns-clause-meaning : goal.returns-clause-meaning
returns-clause-meaning c = λ x v.
    ap (λ s. sigma_on c.args.c.now.modulus s x) (form c)
    ∙ vec_means (target_of c.args.c.now) (plain_vec c.args.vectors) x (machine c) c.requires v

pub returns-clause-operations : goal.returns-clause-operations
returns-clause-operations c =
    ap (phase_costs c.args.c.now.weight c.args.c.now.modulus) (form c)
    ∙ vec_costs c.args.c.now.weight (target_of c.args.c.now) (plain_vec c.args.vectors) c.requires

pub returns-clause-good : goal.returns-clause-good
returns-clause-good c =
    subst IsGoodSigma (sym (form c))
    (vec_can_merge (target_of c.args.c.now) (plain_vec c.args.vectors) (machine c) c.requires)

pub returns-clause-tree : goal.returns-clause-tree
returns-clause-tree c = λ t is.
    let is_tree = IsTreeSigma c.args.c.now t in
    subst is_tree (sym (form c))
    (subst (λ g. is_tree (sigma_of g)) (sym is.form) (trees_are_sigmas c.args.c.now t is.valid is.tree))
