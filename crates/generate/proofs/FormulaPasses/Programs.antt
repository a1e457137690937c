-- The programs of a formula's merged passes compute it, in its operations.
use Rattle.std.proofs.Common.{◌≡◌, ℕ, ◌-◌, List, [], ◌∷◌}
use Rattle.std.proofs.Common.{refl, arith, ap, ◌∙◌}
use Rattle.std.proofs.Common.{sum_by, append-nil}
use Rattle.std.proofs.lemmas.List.Sums.{sum_by-append, sum_by-cons}
use Rattle.sigma_spl.specs.Shared.Machine.{plain_machine}
use Rattle.sigma_spl.specs.Counts.{passes_cost}
use Rattle.sigma_spl.specs.Merge.{passes_of}
use Rattle.sigma_spl.specs.Nest.{PlainNest}
use Rattle.sigma_spl.proofs.Nests.{alone}
use Rattle.sigma_spl.specs.PlainPasses.{in_order}
use Rattle.sigma_lower.specs.Operations.{operations}
use Rattle.sigma_lower.specs.Terms.{term_of}
use Rattle.sigma_lower.proofs.Compiling.{formulas_compile}
use Rattle.generate.specs.FormulaPasses.Laws.{FormulasAreReady}
use Rattle.sigma_lower.proofs.FormulaPasses.Plain.{passes-plain}
use Rattle.loop_merge.proofs.CoalescingLemmas.Passes.{coalesced_are_plain, coalesced_mean, coalesced_cost}
use Rattle.loop_merge.proofs.PlainPasses.{plain_are_ready, plain_on}
use Rattle.loop_merge.specs.Coalescing.Copies.{all_coalesced}
use Rattle.sigma_spl.specs.Shared.Costs.{work_cost, pass_cost}
use Rattle.spl_ast.specs.Formula.{size_of}
use Rattle.generate.specs.FormulaPasses.Computes.{FormulasCompute, formula_merged}
use Rattle.generate.proofs.Performed.{performed-counts}
use Rattle.generate.proofs.Performed as performed

pub formulas_are_ready : FormulasAreReady
formulas_are_ready m f two below shaped few =
    let ps = passes_of (size_of f) (term_of m [] f) in
    plain_are_ready (size_of f) m (all_coalesced ps)
    (coalesced_are_plain (size_of f) m ps (passes-plain m f two below shaped few))

-- ---- the programs of a formula's merged passes compute it, in its operations

-- passes count in order what they count from the last to the first
cost-order : (weight m : ℕ) (ps : List (List PlainNest)) →
    sum_by (pass_cost weight m) (in_order ps) ≡ passes_cost weight (work_cost weight m) ps
cost-order weight m [] = refl
cost-order weight m (zs ∷ ps) =
    let both = sum_by-append (pass_cost weight m) (in_order ps) (zs ∷ []) in
    let last = sum_by-cons (pass_cost weight m) zs [] in
    let rest = cost-order weight m ps in
    omega (arith, both, last, rest)

pub formulas_compute : FormulasCompute
formulas_compute m f p two below shaped few performs =
    let compiled = formulas_compile m f (omega (arith, two)) shaped in
    let ready = formulas_are_ready m f two below shaped few in
    let merged = passes_of (size_of f) (term_of m [] f) in
    let counts = performed-counts (plain_machine (size_of f) m) (formula_merged m f) p performs ready 0 (omega arith) in
    record {
      limits = performs.limits;
      fits = performs.fits;
      results = λ x vector.
          performs.results x vector
          ∙ plain_on (size_of f) m (all_coalesced merged) x
          ∙ coalesced_mean m (size_of f) merged x
          ∙ compiled.on x vector;
      cost = λ weight some.
          performed.alone 1 _ _ refl (counts.operations weight some)
          ∙ ap (sum_by (pass_cost weight m)) (append-nil (in_order (all_coalesced merged)))
          ∙ cost-order weight m (all_coalesced merged)
          ∙ coalesced_cost weight (work_cost weight m) merged (λ d. refl)
          ∙ compiled.cost weight;
    }
