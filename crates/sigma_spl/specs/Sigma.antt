-- Terms in phases, and what they do to a list.
use Rattle.std.specs.Prelude.{◌≡◌, ℕ, ◌+◌, ◌^◌, ◌<◌, ◌≤◌, List, [], ◌∷◌, map, reverse}
use Rattle.operators.specs.Operator.{Operator}
use Rattle.sigma_spl.specs.Counts.{CopiesAreFree, passes_cost, term_cost}
use Rattle.sigma_spl.specs.Good.{AreGoodPasses, IsGoodTerm}
use Rattle.spl_ast.specs.Meaning.{IsVector}
use Rattle.sigma_spl.specs.Limits.{AreWithin, HasSeveral}
use Rattle.sigma_spl.specs.Merge.{passes_of}
use Rattle.sigma_spl.specs.Merged.{PlainMerged, merged_on}
use Rattle.sigma_spl.specs.Nest.{PlainNest}
use Rattle.sigma_spl.specs.Term.{PlainTerm, term_on}
use Rattle.sigma_spl.specs.Words.{AreWords}
use Rattle.sigma_spl.specs.Work.{PlainWork}

-- the term of each phase, in order, on arrays of `size` words, for `procs` processors and `lanes` lanes
pub record PlainSigma : Type 0 where
  pub size : ℕ
  pub procs : ℕ
  pub lanes : ℕ
  pub phases : List PlainTerm

-- what terms do to a list of n items, the first of them first, modulo m
abbrev pub terms_on : ℕ → ℕ → List PlainTerm → Operator
terms_on m n [] x = x
terms_on m n (t ∷ ts) x = terms_on m n ts (term_on m n t x)

abbrev pub sigma_on : ℕ → PlainSigma → Operator
sigma_on m g x = terms_on m g.size g.phases x

-- the operations of each phase, where each work has a cost, and a product counts as several
abbrev pub sigma_costs : ℕ → (PlainWork → ℕ) → PlainSigma → List ℕ
sigma_costs weight cost g = map (term_cost weight cost g.size) g.phases

-- those of all phases
abbrev pub in_all : List ℕ → ℕ
in_all [] = 0
in_all (k ∷ ks) = k + in_all ks

abbrev pub sigma_cost : ℕ → (PlainWork → ℕ) → PlainSigma → ℕ
sigma_cost weight cost g = in_all (sigma_costs weight cost g)

-- ---- merging

-- the passes of a term within the limits of programs, the first of them first
abbrev pub passes_in_order : ℕ → PlainTerm → List (List PlainNest)
passes_in_order n t = reverse (passes_of n t)

-- each phase merged
abbrev pub merged_of : PlainSigma → PlainMerged
merged_of g = record { size = g.size; procs = g.procs; lanes = g.lanes; phases = map (passes_in_order g.size) g.phases }

-- terms that can be merged: they permute, each tensor has several copies, and each number is a word
pub record CanMerge (lanes n : ℕ) (t : PlainTerm) : Type 0 where
  pub good : IsGoodTerm lanes n t
  pub several : HasSeveral t
  pub words : AreWords n t

abbrev pub AllCanMerge : ℕ → ℕ → List PlainTerm → Type 0
AllCanMerge lanes n [] = Unit {0}
AllCanMerge lanes n (t ∷ ts) = CanMerge lanes n t × AllCanMerge lanes n ts

pub record IsGoodSigma (g : PlainSigma) : Type 0 where
  pub some : 0 < g.size
  pub most : g.size ≤ 2 ^ 20
  pub phases : AllCanMerge g.lanes g.size g.phases

-- ---- what merging keeps

-- the operations of the passes of each phase
abbrev pub merged_costs : ℕ → (PlainWork → ℕ) → PlainMerged → List ℕ
merged_costs weight cost g = map (passes_cost weight cost) g.phases

-- the passes of each phase are good modulo any m, and within the limits of programs
pub record ArePasses (lanes n : ℕ) (ps : List (List PlainNest)) : Type 0 where
  pub good : (m : ℕ) → 0 < m → AreGoodPasses lanes m n ps
  pub within : AreWithin 64 n ps

abbrev pub ArePhases : (lanes n : ℕ) → List (List (List PlainNest)) → Type 0
ArePhases lanes n [] = Unit {0}
ArePhases lanes n (ps ∷ more) = ArePasses lanes n ps × ArePhases lanes n more

-- Passes that do what these terms do, each phase in its operations
pub record IsMergeOf (s : PlainSigma) (g : PlainMerged) : Type 0 where
  pub phases : ArePhases g.lanes g.size g.phases
  pub meaning : (m : ℕ) (x : List ℕ) → 0 < m → IsVector m s.size x → merged_on m g x ≡ sigma_on m s x
  pub operations : (weight : ℕ) (cost : PlainWork → ℕ) → CopiesAreFree cost →
      merged_costs weight cost g ≡ sigma_costs weight cost s

abbrev pub SigmaMerges : Type 0
SigmaMerges = (s : PlainSigma) → IsGoodSigma s → IsMergeOf s (merged_of s)
