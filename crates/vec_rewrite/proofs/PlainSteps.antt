-- With one processor and one lane the steps of a layout stay as they are.
use Rattle.std.proofs.Common.{◌≡◌, ℕ, true, arith, refl, sym, ap, ap₂, ◌∙◌, List, [], ◌∷◌}
use Rattle.std.specs.Prelude.{map}
use Rattle.std.specs.List.{flat_map}
use Rattle.std.proofs.lemmas.Bool.Decides.{nat_tests}
use Rattle.std.proofs.lemmas.List.{map-append}
use Rattle.smp_rewrite.specs.Cut.{factors_of, cut}
use Rattle.smp_rewrite.proofs.Factors.{cut-factors}
use Rattle.smp_rewrite.specs.Layout.Step.{PlainStep, steps_of}
use Rattle.sigma_spl.specs.Shared.Targets.{is_alone}
use Rattle.operators.specs.declared.target.Target.{Target}
use Rattle.vec_rewrite.specs.Laws.{PlainSteps}
use Rattle.vec_rewrite.specs.Turning.{kept, vec_of}
use Rattle.vec_rewrite.specs.Vectors.{factor_step, vec_steps}

-- the steps that p processors and v lanes make of steps
abbrev made_of : ℕ → ℕ → ℕ → ℕ → ℕ → List PlainStep → List PlainStep
made_of n m p v line ss = vec_steps (vec_of (cut (record { size = n; modulus = m; procs = p; line = line; lanes = v }) ss))

plain-flat : (n : ℕ) (ss : List PlainStep) → map (factor_step 1 1) (map kept (flat_map (factors_of n 1) ss)) ≡ ss
plain-flat n [] = refl
plain-flat n (s ∷ ss) = ap (λ rest. s ∷ rest) (plain-flat n ss)

plain-made : (n m line : ℕ) (ss : List PlainStep) → made_of n m 1 1 line ss ≡ ss
plain-made n m line ss =
    let h : Target = record { size = n; modulus = m; procs = 1; line = line; lanes = 1 } in
    ap (map (factor_step 1 1)) (sym (map-append kept (cut h ss).first (cut h ss).second) ∙ ap (map kept) (cut-factors h ss)) ∙ plain-flat n ss

pub one_proc : (h : Target) → is_alone h ≡ true → h.procs ≡ 1
one_proc h e = grind (arith, nat_tests)

pub one_lane : (h : Target) → is_alone h ≡ true → h.lanes ≡ 1
one_lane h e = grind (arith, nat_tests)

pub plain_steps : PlainSteps
plain_steps h l e =
    ap₂ (λ p v. made_of h.size h.modulus p v h.line (steps_of [] l)) (one_proc h e) (one_lane h e) ∙ plain-made h.size h.modulus h.line (steps_of [] l)
