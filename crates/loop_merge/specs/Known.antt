-- What is known while a term is merged: each number on the way is a word.
use Rattle.std.specs.Prelude.{ℕ, ◌-◌, ◌*◌, ◌^◌, ◌<◌, ◌≤◌, List, [], ◌∷◌}
use Rattle.sigma_spl.specs.Good.{IsGoodTerm}
use Rattle.sigma_spl.specs.Merge.{Merging}
use Rattle.sigma_spl.specs.Nest.{PlainNest}
use Rattle.sigma_spl.specs.Term.{PlainTerm}
use Rattle.loop_nests.specs.Places.Known.{AreSteps, IsKnownPass}

-- ---- terms

-- a term that is good for some number of lanes
pub record IsGood (n : ℕ) (t : PlainTerm) : Type 0 where
  pub lanes : ℕ
  pub term : IsGoodTerm lanes n t

-- ---- passes

abbrev pub AreKnownPasses : ℕ → ℕ → List (List PlainNest) → Type 0
AreKnownPasses room n [] = Unit {0}
AreKnownPasses room n (zs ∷ ps) = IsKnownPass room n zs × AreKnownPasses room n ps

-- ---- states

-- lists of n words under few tensors: this room is left of 64
pub record HasRoom (room n : ℕ) : Type 0 where
  pub some : 0 < n
  pub most : room ≤ 64
  pub round : n * 2 ^ (64 - room) ≤ 2 ^ 20

pub record IsKnown (room n : ℕ) (st : Merging) : Type 0 where
  pub waiting : AreSteps n st.waiting
  pub passes : AreKnownPasses room n st.passes
