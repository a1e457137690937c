-- Merged passes, and what they do to a list.
use Rattle.std.specs.Prelude.{ℕ, List, [], ◌∷◌}
use Rattle.operators.specs.Operator.{Operator}
use Rattle.sigma_spl.specs.Nest.{PlainNest, nests_on}

-- the passes of each phase, in order, on arrays of `size` words, for `procs` processors and `lanes` lanes
pub record PlainMerged : Type 0 where
  pub size : ℕ
  pub procs : ℕ
  pub lanes : ℕ
  pub phases : List (List (List PlainNest))

-- what passes make of a list of n items, the first of them first, modulo m
abbrev pub phase_on : ℕ → ℕ → List (List PlainNest) → Operator
phase_on m n [] x = x
phase_on m n (zs ∷ ps) x = phase_on m n ps (nests_on m n zs x)

abbrev pub phases_on : ℕ → ℕ → List (List (List PlainNest)) → Operator
phases_on m n [] x = x
phases_on m n (ps ∷ more) x = phases_on m n more (phase_on m n ps x)

abbrev pub merged_on : ℕ → PlainMerged → Operator
merged_on m g x = phases_on m g.size g.phases x
