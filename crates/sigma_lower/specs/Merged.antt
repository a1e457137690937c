-- The terms of a layout and of a whole: that they do what it does, and can be merged.
use Rattle.std.specs.Prelude.{◌≡◌, ℕ, List, [], ◌∷◌, map, Option, Some, None}
use Rattle.operators.specs.declared.target.Target.{Target}
use Rattle.sigma_lower.specs.Machine.{IsMachine}
use Rattle.matrix_meaning.specs.declared.Request.{Request}
use Rattle.sigma_spl.specs.Counts.{term_cost}
use Rattle.spl_ast.specs.Meaning.{IsVector}
use Rattle.sigma_spl.specs.Loops.{loops_in, HasLoop}
use Rattle.sigma_spl.specs.Merged.{PlainMerged}
use Rattle.sigma_spl.specs.Nest.{repeated}
use Rattle.sigma_spl.specs.Sigma.{PlainSigma, IsGoodSigma, merged_of, sigma_on}
use Rattle.sigma_spl.specs.Term as terms
use Rattle.sigma_lower.specs.Shared.{phase_term}
use Rattle.sigma_lower.specs.TreeTerms.Term.{PlainTerm, lowered_of, terms_in}
use Rattle.smp_rewrite.specs.Cut.{smp_of}
use Rattle.smp_rewrite.specs.Smp.{within}
use Rattle.smp_rewrite.specs.Fits.{CanShareLayout}
use Rattle.matrix_meaning.specs.Valid.{IsValid}
use Rattle.smp_rewrite.specs.Layout.Tree.{Layout, IsGoodLayout}
use Rattle.sigma_spl.specs.Shared.Costs.{work_cost}
use Rattle.sigma_spl.specs.Shared.Targets.{target_of}
use Rattle.smp_rewrite.specs.Layout.Whole.{Whole, whole_of, whole_on, IsGoodWhole}
use Rattle.operators.specs.declared.paths.Tensor.TheVariants.{Blocks}
use Rattle.tree_model.specs.Breakdown.{Breakdown}
use Rattle.tree_model.specs.Chosen.{IsWholeTree}
use Rattle.vec_rewrite.specs.Turning.{vec_of}
use Rattle.vec_rewrite.specs.Vectors.{PlainVec}

-- each of n words times v, as a diagonal of one entry
abbrev pub closing_term : ℕ → ℕ → terms.PlainTerm
closing_term n v = terms.diag (within (Blocks n) []) (repeated v 1)

-- the last phase with these products after it
abbrev pub close_last : ℕ → ℕ → List terms.PlainTerm → List terms.PlainTerm
close_last n v [] = []
close_last n v (t ∷ []) = terms.product t (closing_term n v) ∷ []
close_last n v (t ∷ u ∷ ts) = t ∷ close_last n v (u ∷ ts)

abbrev pub closed_phases : ℕ → Option ℕ → List terms.PlainTerm → List terms.PlainTerm
closed_phases n None ts = ts
closed_phases n (Some v) ts = close_last n v ts

-- the terms of a formula for processors and lanes, phase by phase
abbrev pub sigma_of : PlainVec → PlainSigma
sigma_of g = record {
  size = g.target.size;
  procs = g.target.procs;
  lanes = g.target.lanes;
  phases = closed_phases g.target.size g.closing (map phase_term (terms_in g));
}

-- the operations of each phase
abbrev pub phase_costs : ℕ → ℕ → PlainSigma → List ℕ
phase_costs weight m g = map (term_cost weight (work_cost weight m) g.size) g.phases

-- the terms of a whole
abbrev pub whole_sigma : Target → Whole → PlainSigma
whole_sigma h w = sigma_of (vec_of (smp_of h w))

-- a whole that the machine can share, and of which a program can be made
pub record CanLower (h : Target) (w : Whole) : Type 0 where
  pub machine : IsMachine h
  pub shares : CanShareLayout h w.layout
  pub good : IsGoodWhole h.modulus w

-- its terms can be merged
abbrev pub TreesCanMerge : Type 0
TreesCanMerge = (h : Target) (w : Whole) → CanLower h w → IsGoodSigma (whole_sigma h w)

-- they do what it does
abbrev pub SigmaTransforms : Type 0
SigmaTransforms =
    (h : Target) (w : Whole) (x : List ℕ) → CanLower h w → IsVector h.modulus h.size x →
    sigma_on h.modulus (whole_sigma h w) x ≡ whole_on h.modulus w x

-- the merged passes of a request's tree: an inverse multiplies in the last of them
abbrev pub tree_merged : Request → Breakdown → PlainMerged
tree_merged c t = merged_of (whole_sigma (target_of c) (whole_of c t))

-- the whole of a tree that a request admits
abbrev pub TreesCanLower : Type 0
TreesCanLower = (c : Request) (t : Breakdown) → IsValid c → IsWholeTree c t → CanLower (target_of c) (whole_of c t)

-- each phase has a loop
abbrev pub AllHaveLoops : Target → List (List PlainTerm) → Type 0
AllHaveLoops h [] = Unit {0}
AllHaveLoops h (ts ∷ more) = HasLoop (loops_in (phase_term ts)) × AllHaveLoops h more

abbrev pub PhasesHaveLoops : Type 0
PhasesHaveLoops =
    (h : Target) (l : Layout) → IsMachine h → CanShareLayout h l → IsGoodLayout h.modulus l →
    AllHaveLoops h (lowered_of h l)
