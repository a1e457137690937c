-- What merging keeps of terms.
use Rattle.std.specs.Prelude.{◌≡◌, ℕ, ◌<◌, List}
use Rattle.sigma_spl.specs.Counts.{CopiesAreFree}
use Rattle.sigma_spl.specs.Meaning.{IsVector}
use Rattle.sigma_spl.specs.Merged.{PlainMerged, merged_on}
use Rattle.sigma_spl.specs.Sigma.{PlainSigma, merged_costs, sigma_costs, sigma_on}
use Rattle.sigma_spl.specs.Work.{PlainWork}

-- the passes do what the terms do, modulo any number
abbrev pub MeansAlike : PlainSigma → PlainMerged → Type 0
MeansAlike s g =
    (m : ℕ) (x : List ℕ) → 0 < m → IsVector m s.size x → merged_on m g x ≡ sigma_on m s x

-- each phase has as many operations, whatever each work costs where copies are free
abbrev pub CostsAlike : PlainSigma → PlainMerged → Type 0
CostsAlike s g =
    (weight : ℕ) (cost : PlainWork → ℕ) → CopiesAreFree cost →
    merged_costs weight cost g ≡ sigma_costs weight cost s
