-- The terms of whole trees, for any processors and lanes, are good terms, which do what they did.
use Rattle.sigma_lower.proofs.Words.{◌≡◌, ℕ, ◌==◌, refl, sym, ap, ◌∙◌, List, [], ◌∷◌, ◌++◌, subst, All, map, All-nil}
use Rattle.sigma_lower.proofs.Words.{All-cons, All-head, All-tail, Target, IsMachine, chosen, IsGoodTerm, IsVector}
use Rattle.sigma_lower.proofs.Words.{term_on, phase_term, AreGood, IsVecOf, factor_term, lowered_of, layout_smp, only}
use Rattle.sigma_lower.proofs.Words.{HasLanes, laned, vec_of, PlainFactor, factor_step, vec_shaped, CanShareLayout}
use Rattle.sigma_lower.proofs.Words.{Layout, IsGoodLayout, IsGoodWhole}
use Rattle.sigma_lower.proofs.Embedded.{factors_embed}
use Rattle.sigma_lower.proofs.Trees.{step-keeps}
use Rattle.sigma_lower.proofs.TreeTerms.Goods.{vec_good, phases_good}
use Rattle.sigma_lower.proofs.TreeTerms.Lowering.{factor_on}
use Rattle.sigma_lower.specs.TreeTerms.Term as lowered

-- ---- phases

-- The term of a phase is good, and does what its terms did
pub record PhaseEmbeds (h : Target) (v : ℕ) (ts : List lowered.PlainTerm) : Type 0 where
  pub good : IsGoodTerm v h.size (phase_term ts)
  pub on : (x : List ℕ) → IsVector h.modulus h.size x → term_on h.modulus h.size (phase_term ts) x
      ≡ lowered.terms_on h ts x

abbrev pub AllEmbed : Target → ℕ → List (List lowered.PlainTerm) → Type 0
AllEmbed h v [] = Unit {0}
AllEmbed h v (ts ∷ more) = PhaseEmbeds h v ts × AllEmbed h v more

pub all-left : (P : PlainFactor → Type 0) (fs gs : List PlainFactor) → All P (fs ++ gs) → All P fs
all-left P [] gs h = All-nil P
all-left P (f ∷ fs) gs h = All-cons P f fs (All-head P f (fs ++ gs) h) (all-left P fs gs (All-tail P f (fs ++ gs) h))

pub all-right : (P : PlainFactor → Type 0) (fs gs : List PlainFactor) → All P (fs ++ gs) → All P gs
all-right P [] gs h = h
all-right P (f ∷ fs) gs h = all-right P fs gs (All-tail P f (fs ++ gs) h)

phase-embeds : (c : Target) (p v : ℕ) (fs : List PlainFactor) → IsMachine c → All (HasLanes c.size p v) fs →
    AreGood c.size (map (factor_step p v) fs) → PhaseEmbeds c v (map (factor_term p v) fs)
phase-embeds c p v [] valid laned h = record { good = tt; on = λ x w. refl }
phase-embeds c p v (f ∷ fs) valid laned h =
    let first = factors_embed c p v f valid (All-head (HasLanes c.size p v) f fs laned) h.0 in
    let rest = phase-embeds c p v fs valid (All-tail (HasLanes c.size p v) f fs laned) h.1 in
    record {
      good = (first.good, rest.good);
      on = λ x w.
          ap (term_on c.modulus c.size (phase_term (map (factor_term p v) fs))) (first.on x w)
          ∙ rest.on (lowered.term_on c (factor_term p v f) x) (subst (IsVector c.modulus c.size) (sym (factor_on c p v f x h.0)) (step-keeps c (factor_step p v f) x valid h.0 w));
    }

pub trees_embed : (c : Target) (l : Layout) → IsMachine c → CanShareLayout c l → IsGoodLayout c.modulus l →
    AllEmbed c c.lanes (lowered_of c l)
trees_embed c l valid shares good =
    let g = vec_of (layout_smp c l) in
    let P = HasLanes c.size c.procs c.lanes in
    let whole : IsGoodWhole c.modulus (only l) = record { layout = good; factor = tt } in
    let is : IsVecOf c g = record { whole = only l; shares = shares; good = whole; form = refl } in
    let shaped = (vec_shaped c (layout_smp c l) (record { whole = only l; shares = shares; form = refl })).0 in
    let both = phases_good c g is in
    let all = vec_good c g is in
    let terms = factor_term c.procs c.lanes in
    let embeds = phase-embeds c c.procs c.lanes in
    chosen (λ phases. AllEmbed c c.lanes (map (map terms) phases)) (c.procs == 1) ((g.first ++ g.second) ∷ [])
    (g.first ∷ g.second ∷ []) (λ one. (embeds (g.first ++ g.second) valid shaped all, tt)) (
      embeds g.first valid (all-left P g.first g.second shaped) both.0,
      (embeds g.second valid (all-right P g.first g.second shaped) both.1, tt),
    )
