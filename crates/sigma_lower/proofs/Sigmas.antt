-- The terms of a formula for lanes: they are those of its factors, do what it does, and can be merged.
use Rattle.sigma_lower.proofs.Words.{◌≡◌, ◌≢◌, ℕ, ◌<◌, arith, refl, sym, ap, ap₂, ◌∙◌, List, [], ◌∷◌, ◌++◌, subst, map}
use Rattle.sigma_lower.proofs.Words.{reverse, nat_tests, reverse-append, Target, IsMachine, IsVector, PlainSigma, same}
use Rattle.sigma_lower.proofs.Words.{product, term_on, merge_keeps, CanLower, embed, phase_term, IsVecOf, factor_term}
use Rattle.sigma_lower.proofs.Words.{terms_in, smp_of, vec_of, PlainFactor, PlainVec, unbounded, passes_within}
use Rattle.sigma_lower.proofs.Words.{IsGoodSigma, sigma_on, terms_on, sigma_of, closed_on, VecFactor, plain_vec_factor}
use Rattle.sigma_spl.specs.Term.{PlainTerm}
use Rattle.sigma_spl.proofs.Walk.{passes-vector}
use Rattle.sigma_lower.specs.Merged.{SigmaTransforms}
use Rattle.sigma_lower.specs.Shared.{factors_before}
use Rattle.sigma_lower.proofs.CanMerge.{trees_can_merge}
use Rattle.sigma_lower.proofs.Closing.{has_phase, closed-on}
use Rattle.sigma_lower.proofs.SharedTrees.{AllEmbed, PhaseEmbeds, trees_embed}
use Rattle.sigma_lower.specs.TreeTerms.Term.{phases_of}
use Rattle.sigma_lower.proofs.TreeTerms.Both.{terms_mean}
use Rattle.smp_rewrite.proofs.TreeLaws.{smp_transforms}
use Rattle.vec_rewrite.specs.Vectors.{vec_on}
use Rattle.vec_rewrite.proofs.LaneLaws.{vec_keeps}
use Rattle.sigma_lower.specs.TreeTerms.Term as lowered

-- ---- phases

before-same : (p v : ℕ) (fs : List PlainFactor) → factors_before p v fs same ≡ phase_term (map (factor_term p v) fs)
before-same p v [] = refl
before-same p v (f ∷ fs) = ap (product (embed (factor_term p v f))) (before-same p v fs)

before-both : (p v : ℕ) (fs gs : List PlainFactor) → factors_before p v fs (factors_before p v gs same)
    ≡ phase_term (map (factor_term p v) (fs ++ gs))
before-both p v [] gs = before-same p v gs
before-both p v (f ∷ fs) gs = ap (product (embed (factor_term p v f))) (before-both p v fs gs)

-- one more factor before those that stand there, the last of which was taken first
pub before-more : (p v : ℕ) (fs : List VecFactor) (f : VecFactor) (after t u w : PlainTerm) →
    t ≡ factors_before p v (map plain_vec_factor (reverse fs)) after →
    u ≡ embed (factor_term p v (plain_vec_factor f)) → w ≡ product u t →
    w ≡ factors_before p v (map plain_vec_factor (reverse (fs ++ f ∷ []))) after
before-more p v fs f after t u w so_far one made =
    made ∙ ap₂ product one so_far ∙ ap (λ gs. factors_before p v (map plain_vec_factor gs) after) (sym (reverse-append fs (f ∷ [])))

-- one processor has one phase
pub one-phase : (g : PlainVec) (left all : PlainTerm) → g.target.procs ≡ 1 →
    left ≡ factors_before g.target.procs g.target.lanes g.second same →
    all ≡ factors_before g.target.procs g.target.lanes g.first left → all ∷ [] ≡ map phase_term (terms_in g)
one-phase g left all alone second first =
    let is : phases_of g ≡ (g.first ++ g.second) ∷ [] = grind (arith, nat_tests) in
    ap (λ t. t ∷ []) (first ∙ ap (factors_before g.target.procs g.target.lanes g.first) second ∙ before-both g.target.procs g.target.lanes g.first g.second)
    ∙ ap (λ fs. map phase_term (map (map (factor_term g.target.procs g.target.lanes)) fs)) (sym is)

-- and several have two
pub two-phases : (g : PlainVec) (left right : PlainTerm) → g.target.procs ≢ 1 →
    left ≡ factors_before g.target.procs g.target.lanes g.second same →
    right ≡ factors_before g.target.procs g.target.lanes g.first same →
    right ∷ left ∷ [] ≡ map phase_term (terms_in g)
two-phases g left right several second first =
    let is : phases_of g ≡ g.first ∷ g.second ∷ [] = grind (arith, nat_tests) in
    ap₂ (λ t u. t ∷ u ∷ []) (first ∙ before-same g.target.procs g.target.lanes g.first) (second ∙ before-same g.target.procs g.target.lanes g.second)
    ∙ ap (λ fs. map phase_term (map (map (factor_term g.target.procs g.target.lanes)) fs)) (sym is)

abbrev pub of_phases : Target → List PlainTerm → PlainSigma
of_phases h ts = record { size = h.size; procs = h.procs; lanes = h.lanes; phases = ts }

-- ---- what they do

-- what the term of a phase leaves is a vector
phase-vector : (c : Target) (ts : List lowered.PlainTerm) (x : List ℕ) → IsMachine c → PhaseEmbeds c c.lanes ts →
    IsVector c.modulus c.size x → IsVector c.modulus c.size (term_on c.modulus c.size (phase_term ts) x)
phase-vector c ts x valid h v =
    let positive : 0 < c.modulus = omega (arith, valid.modulus) in
    let merged = merge_keeps c.lanes c.modulus c.size unbounded (phase_term ts) positive (omega (arith, valid.size.0)) h.good in
    subst (IsVector c.modulus c.size) (merged.on x v) (passes-vector c.modulus c.size (passes_within unbounded c.size (phase_term ts)) x positive v)

phases-mean : (c : Target) (phases : List (List lowered.PlainTerm)) (x : List ℕ) → IsMachine c →
    AllEmbed c c.lanes phases → IsVector c.modulus c.size x →
    terms_on c.modulus c.size (map phase_term phases) x ≡ lowered.phases_on c phases x
phases-mean c [] x valid h v = refl
phases-mean c (ts ∷ more) x valid h v =
    phases-mean c more (term_on c.modulus c.size (phase_term ts) x) valid h.1 (phase-vector c ts x valid h.0 v) ∙ ap (lowered.phases_on c more) (h.0.on x v)

vec-embeds : (c : Target) (g : PlainVec) → IsMachine c → IsVecOf c g → AllEmbed c c.lanes (terms_in g)
vec-embeds c g valid h =
    subst (λ z. AllEmbed c c.lanes (terms_in z)) (sym h.form) (trees_embed c h.whole.layout valid h.shares h.good.layout)

target-is : (c : Target) (g : PlainVec) → IsVecOf c g → g.target ≡ c
target-is c g h = ap (λ (z : PlainVec). z.target) h.form

-- they do what the formula for lanes does
pub vec_means : (c : Target) (g : PlainVec) (x : List ℕ) → IsMachine c → IsVecOf c g → IsVector c.modulus c.size x →
    sigma_on c.modulus (sigma_of g) x ≡ vec_on c.modulus g x
vec_means c g x valid h v =
    let ts = map phase_term (terms_in g) in
    closed-on c.modulus g.target.size g.closing ts x (has_phase g)
    ∙ ap (closed_on c.modulus g.target.size g.closing)
    (ap (λ (z : Target). terms_on c.modulus z.size ts x) (target-is c g h)
    ∙ phases-mean c (terms_in g) x valid (vec-embeds c g valid h) v
    ∙ terms_mean c g x h)

-- and can be merged
pub vec_can_merge : (c : Target) (g : PlainVec) → IsMachine c → IsVecOf c g → IsGoodSigma (sigma_of g)
vec_can_merge c g valid h =
    let can : CanLower c h.whole = record { machine = valid; shares = h.shares; good = h.good } in
    subst (λ z. IsGoodSigma (sigma_of z)) (sym h.form) (trees_can_merge c h.whole can)

-- those of a whole do what it does
pub sigma_transforms : SigmaTransforms
sigma_transforms c w x can v =
    let g = vec_of (smp_of c w) in
    let is : IsVecOf c g = record { whole = w; shares = can.shares; good = can.good; form = refl } in
    let kept = vec_keeps 1 c.modulus c (smp_of c w) (record { whole = w; shares = can.shares; form = refl }) in
    vec_means c g x can.machine is v ∙ kept.0 x ∙ smp_transforms c w x can.shares
