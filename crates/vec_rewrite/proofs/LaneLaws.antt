-- The formula of a whole for lanes: what it does, and each processor's operations.
use Rattle.std.proofs.Common.{◌≡◌, ◌≢◌, ℕ, ◌+◌, ◌<◌, ◌≤◌, arith, refl, sym, ap, ap₂, subst, ◌∙◌, List, [], ◌∷◌, ◌++◌}
use Rattle.std.proofs.Common.{inl, inr, if◌then◌else◌}
use Rattle.std.specs.Prelude.{◌/◌, map, None}
use Rattle.std.proofs.lemmas.Bool.{cases_eq}
use Rattle.std.proofs.lemmas.List.{map-append}
use Rattle.smp_rewrite.specs.Smp as smp
use Rattle.smp_rewrite.specs.Cut.{layout_smp, smp_of}
use Rattle.smp_rewrite.specs.Layout.Meaning.{all_on}
use Rattle.smp_rewrite.proofs.LayoutLemmas.StepMeanings.{all_on-append}
use Rattle.smp_rewrite.specs.Fits.{CanShareLayout}
use Rattle.smp_rewrite.specs.Layout.Tree.{Layout}
use Rattle.smp_rewrite.specs.Layout.Whole.{Whole, closed_on, closing_cost}
use Rattle.operators.specs.declared.target.Target.{Target}
use Rattle.vec_rewrite.specs.declared.Deal.{Deal}
use Rattle.vec_rewrite.specs.Laws.{Keeps, VecKeeps}
use Rattle.vec_rewrite.specs.Turning.{kept, laned_from, phase_of, deal_of}
use Rattle.vec_rewrite.specs.Vectors.{factor_step, shares_in}
use Rattle.vec_rewrite.proofs.Following.{AllFollow, laned_on}
use Rattle.vec_rewrite.proofs.LaneShares.{laned-share, kept-share}
use Rattle.vec_rewrite.proofs.StepFollows.{unequal}
use Rattle.vec_rewrite.proofs.TreeFollows.{both_follow}

-- ---- one phase

kept-steps : (p : ℕ) (fs : List smp.PlainFactor) → map (factor_step p 1) (map kept fs) ≡ map (smp.factor_step p) fs
kept-steps p [] = refl
kept-steps p (smp.blocks s ∷ fs) = ap (λ ss. smp.factor_step p (smp.blocks s) ∷ ss) (kept-steps p fs)
kept-steps p (smp.diagonals s ∷ fs) = ap (λ ss. s ∷ ss) (kept-steps p fs)
kept-steps p (smp.move_before s ∷ fs) = ap (λ ss. s ∷ ss) (kept-steps p fs)
kept-steps p (smp.move_after s ∷ fs) = ap (λ ss. s ∷ ss) (kept-steps p fs)

-- what a phase does and costs, where it can be cut into several lanes
record PhaseKeeps (weight m : ℕ) (d : Deal) (fs : List smp.PlainFactor) : Type 0 where
  meaning : (x : List ℕ) → all_on m (map (factor_step d.procs d.lanes) (phase_of d fs)) x
      ≡ all_on m (map (smp.factor_step d.procs) fs) x
  share : shares_in weight m d.procs d.lanes (phase_of d fs) ≡ smp.shares_in weight m d.procs fs

phase-kept : (weight m p block v : ℕ) (fs : List smp.PlainFactor) → v ≡ 1 → PhaseKeeps weight m (record { procs = p; block = block; lanes = v }) fs
phase-kept weight m p block v fs one =
    subst (λ v. PhaseKeeps weight m (record { procs = p; block = block; lanes = v }) fs) (sym one) (record { meaning = λ x. ap (λ ss. all_on m ss x) (kept-steps p fs); share = kept-share weight m p fs })

phase-laned : (weight m : ℕ) (d : Deal) (fs : List smp.PlainFactor) → d.lanes ≢ 1 → 0 < d.procs → AllFollow d None fs →
    PhaseKeeps weight m d fs
phase-laned weight m d fs several positive h =
    let cut : phase_of d fs ≡ laned_from d None fs = ap (λ b. if b then map kept fs else laned_from d None fs) (unequal d.lanes several) in
    record {
      meaning = λ x. ap (λ gs. all_on m (map (factor_step d.procs d.lanes) gs) x) cut ∙ laned_on m d None fs x h;
      share = ap (shares_in weight m d.procs d.lanes) cut ∙ laned-share weight m d None fs positive h;
    }

-- ---- both phases

abbrev PhasesKeep : ℕ → ℕ → Deal → List smp.PlainFactor → List smp.PlainFactor → Type 0
PhasesKeep weight m d first second =
    ((x : List ℕ) → all_on m (map (factor_step d.procs d.lanes) (phase_of d first ++ phase_of d second)) x ≡ all_on m (map (smp.factor_step d.procs) (first ++ second)) x)
    × (shares_in weight m d.procs d.lanes (phase_of d first) ≡ smp.shares_in weight m d.procs first)
    × (shares_in weight m d.procs d.lanes (phase_of d second) ≡ smp.shares_in weight m d.procs second)

both-keep : (weight m : ℕ) (d : Deal) (first second : List smp.PlainFactor) → PhaseKeeps weight m d first →
    PhaseKeeps weight m d second → PhasesKeep weight m d first second
both-keep weight m d first second h k =
    let fs = phase_of d first in
    let gs = phase_of d second in
    let step = factor_step d.procs d.lanes in
    let old = smp.factor_step d.procs in (
      λ x.
          ap (λ ss. all_on m ss x) (map-append step fs gs)
          ∙ all_on-append m (map step fs) (map step gs) x
          ∙ ap (all_on m (map step gs)) (h.meaning x)
          ∙ k.meaning (all_on m (map old first) x)
          ∙ sym (ap (λ ss. all_on m ss x) (map-append old first second) ∙ all_on-append m (map old first) (map old second) x),
      h.share,
      k.share,
    )

layout-keeps : (weight m : ℕ) (h : Target) (l : Layout) → CanShareLayout h l →
    PhasesKeep weight m (deal_of h) (layout_smp h l).first (layout_smp h l).second
layout-keeps weight m h l shares =
    let f = layout_smp h l in
    let d = deal_of h in
    let low : 1 ≤ h.lanes = shares.lanes in
    let procs : 1 ≤ h.procs = shares.procs in
    elim (cases_eq h.lanes 1) [
      | inl one ↦ both-keep weight m d f.first f.second (phase-kept weight m h.procs d.block h.lanes f.first one) (phase-kept weight m h.procs d.block h.lanes f.second one)
      | inr many ↦
          let follow = both_follow h l (omega (arith, low, many)) shares in
          both-keep weight m d f.first f.second (phase-laned weight m d f.first many (omega (arith, procs)) follow.0) (phase-laned weight m d f.second many (omega (arith, procs)) follow.1)
    ]

-- the products at the end stay as they are
whole-keeps : (weight m : ℕ) (h : Target) (w : Whole) → CanShareLayout h w.layout → Keeps weight m (smp_of h w)
whole-keeps weight m h w shares =
    let phases = layout-keeps weight m h w.layout shares in (
      λ x. ap (closed_on m h.size w.factor) (phases.0 x),
      ap₂ (λ a b. smp.by_phase h.procs a (b + closing_cost weight h.size w.factor / h.procs)) phases.1 phases.2,
    )

pub vec_keeps : VecKeeps
vec_keeps weight m h f k = subst (Keeps weight m) (sym k.form) (whole-keeps weight m h k.whole k.shares)
