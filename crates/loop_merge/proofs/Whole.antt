-- The passes of good terms in phases, as one value.
use Rattle.std.proofs.Common.{◌≡◌, List, sym, subst}
use Rattle.sigma_spl.specs.Merged.{PlainMerged}
use Rattle.sigma_spl.specs.Nest.{PlainNest}
use Rattle.sigma_spl.specs.Sigma.{IsGoodSigma, IsMergeOf, PlainSigma, merged_of}
use Rattle.sigma_spl.proofs.Phases.{sigma_merges}

-- these phases, for as many processors and lanes
abbrev pub merged_from : PlainSigma → List (List (List PlainNest)) → PlainMerged
merged_from s phases = record { size = s.size; procs = s.procs; lanes = s.lanes; phases = phases }

pub is_merge : (s : PlainSigma) (g : PlainMerged) → IsGoodSigma s → g ≡ merged_of s → IsMergeOf s g
is_merge s g good is = subst (IsMergeOf s) (sym is) (sigma_merges s good)
