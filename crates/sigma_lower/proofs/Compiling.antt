-- The passes of a formula do what it does, in its operations.
use Rattle.sigma_lower.proofs.Words.{◌≡◌, ◌*◌, arith, refl, ◌∙◌, [], most, merge_keeps, work_cost, operations, term_of}
use Rattle.sigma_lower.proofs.Words.{size_of, shaped_size, size_is_size}
use Rattle.sigma_spl.proofs.Counting.{merge_counts}
use Rattle.sigma_spl.proofs.Limited.{merge_limits}
use Rattle.sigma_lower.specs.Compiled.{FormulasCompile}
use Rattle.sigma_lower.proofs.Counted.{lower_counts}
use Rattle.sigma_lower.proofs.Lowers.{lowers}
use Rattle.sigma_lower.proofs.Several.{term-several}

pub formulas_compile : FormulasCompile
formulas_compile m f positive shaped =
    let some = shaped_size f shaped in
    let lowered = lowers m [] f positive some shaped in
    let merged = merge_keeps 0 m (size_of f) (most 64) (term_of m [] f) positive some lowered.good in
    record {
      good = merged.good;
      limits = merge_limits 0 (size_of f) (term_of m [] f) some (omega (arith, (size_is_size f shaped).1)) lowered.good (term-several m [] f tt shaped);
      on = λ x v. merged.on x v ∙ lowered.on x v;
      cost = λ weight.
          let one : 1 * operations weight m f ≡ operations weight m f = omega arith in
          merge_counts 0 m (size_of f) (most 64) (term_of m [] f) weight (work_cost weight m) positive some (λ d. refl) lowered.good ∙ lower_counts weight m [] f positive shaped ∙ one;
    }
