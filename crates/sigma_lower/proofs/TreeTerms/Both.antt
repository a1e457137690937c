-- All phases: their terms do what the formula for lanes does.
use Rattle.sigma_lower.proofs.Words.{◌≡◌, ℕ, Bool, true, false, refl, sym, ap, ap₂, ◌∙◌, List, [], ◌∷◌, ◌++◌}
use Rattle.sigma_lower.proofs.Words.{if◌then◌else◌, map, ◌==◌, flat_map, map-append, IsVecOf, PlainTerm, lowered}
use Rattle.sigma_lower.proofs.Words.{factor_term, terms_in, lowered_of, factors_of, PlainStep, steps_of, Layout}
use Rattle.sigma_lower.proofs.Words.{is_alone, Target, kept, vec_of, PlainVec, factor_step, cut, all_on, vec_steps}
use Rattle.sigma_lower.proofs.Words.{one_proc, one_lane}
use Rattle.sigma_lower.specs.TreeTerms.Term.{terms_on, phases_on}
use Rattle.sigma_lower.proofs.TreeTerms.Goods.{vec_good, phases_good}
use Rattle.sigma_lower.proofs.TreeTerms.Lowering.{factors_on}
use Rattle.smp_rewrite.proofs.Factors.{cut-factors}
use Rattle.smp_rewrite.proofs.LayoutLemmas.StepMeanings.{all_on-append}

-- ---- one phase after the other

-- what two lists of factors do, one after the other
both-on : (m : ℕ) (g : PlainVec) (x : List ℕ) → all_on m (vec_steps g) x
    ≡ all_on m (map (factor_step g.target.procs g.target.lanes) g.second)
    (all_on m (map (factor_step g.target.procs g.target.lanes) g.first) x)
both-on m g x =
    let step = factor_step g.target.procs g.target.lanes in
    ap (λ ss. all_on m ss x) (map-append step g.first g.second) ∙ all_on-append m (map step g.first) (map step g.second) x

terms-pick : (h : Target) (g : PlainVec) (b : Bool) (x : List ℕ) → IsVecOf h g →
    phases_on h (map (map (factor_term g.target.procs g.target.lanes))
    (if b then (g.first ++ g.second) ∷ [] else g.first ∷ g.second ∷ [])) x
    ≡ all_on h.modulus (vec_steps g) x
terms-pick h g true x k = factors_on h g.target.procs g.target.lanes (g.first ++ g.second) x (vec_good h g k)
terms-pick h g false x k =
    let p = g.target.procs in
    let v = g.target.lanes in
    let both = phases_good h g k in
    factors_on h p v g.second (terms_on h (map (factor_term p v) g.first) x) both.1
    ∙ ap (all_on h.modulus (map (factor_step p v) g.second)) (factors_on h p v g.first x both.0) ∙ sym (both-on h.modulus g x)

-- without the products at the end
pub terms_mean : (h : Target) (g : PlainVec) (x : List ℕ) → IsVecOf h g →
    phases_on h (terms_in g) x ≡ all_on h.modulus (vec_steps g) x
terms_mean h g x k = terms-pick h g (g.target.procs == 1) x k

-- ---- one processor and one lane

-- the terms that p processors and v lanes make of steps
abbrev made_of : ℕ → ℕ → ℕ → ℕ → ℕ → List PlainStep → List (List PlainTerm)
made_of n m p v line ss = terms_in (vec_of (cut (record { size = n; modulus = m; procs = p; line = line; lanes = v }) ss))

plain-flat : (n : ℕ) (ss : List PlainStep) → map (factor_term 1 1) (map kept (flat_map (factors_of n 1) ss))
    ≡ map lowered ss
plain-flat n [] = refl
plain-flat n (s ∷ ss) = ap (λ rest. lowered s ∷ rest) (plain-flat n ss)

plain-made : (n m line : ℕ) (ss : List PlainStep) → made_of n m 1 1 line ss ≡ map lowered ss ∷ []
plain-made n m line ss =
    let h : Target = record { size = n; modulus = m; procs = 1; line = line; lanes = 1 } in
    ap (λ ts. ts ∷ [])
    (ap (map (factor_term 1 1)) (sym (map-append kept (cut h ss).first (cut h ss).second) ∙ ap (map kept) (cut-factors h ss)) ∙ plain-flat n ss)

pub plain_terms : (h : Target) (l : Layout) → is_alone h ≡ true → lowered_of h l ≡ map lowered (steps_of [] l) ∷ []
plain_terms h l e = ap₂ (λ p v. made_of h.size h.modulus p v h.line (steps_of [] l)) (one_proc h e) (one_lane h e) ∙ plain-made h.size h.modulus h.line (steps_of [] l)
