-- What is known of a permutation and of a pass that takes it: each number on the way is a word.
use Rattle.std.specs.Prelude.{◌≡◌, ℕ, ◌^◌, ◌≤◌, true, List, [], ◌∷◌}
use Rattle.index_fn.specs.Mapping.{Mapping}
use Rattle.sigma_spl.specs.Good.{IsFormed, IsMove}
use Rattle.sigma_spl.specs.Merge.{is_within}
use Rattle.sigma_spl.specs.Nest.{PlainNest}
use Rattle.sigma_spl.specs.Words.{HasNumbers, IsDefinedBelow}
use Rattle.loop_nests.specs.Ready.{IsReadyPass}

-- a function of the places of n words, which leads from each of them
abbrev pub IsPlaceFunction : ℕ → Mapping → Type 0
IsPlaceFunction n f = (n ≤ 2 ^ 20) × IsFormed f × IsDefinedBelow n f

-- a permutation that waits
pub record IsStep (n : ℕ) (f : Mapping) : Type 0 where
  pub lanes : ℕ
  pub moves : IsMove lanes n f
  pub numbers : HasNumbers n f

abbrev pub AreSteps : ℕ → List Mapping → Type 0
AreSteps n [] = Unit {0}
AreSteps n (f ∷ fs) = IsStep n f × AreSteps n fs

-- the places of a pass are within the limits, and of words
pub record IsKnownPass (room n : ℕ) (zs : List PlainNest) : Type 0 where
  pub within : is_within room n zs ≡ true
  pub ready : IsReadyPass zs
