-- Passes for one processor and one lane, such as those of a formula.
use Rattle.std.specs.Prelude.{◌≡◌, ℕ, ◌^◌, ◌<◌, ◌≤◌, true, List, [], ◌∷◌, ◌++◌, length, map, All}
use Rattle.operators.specs.Sizes.{max_size}
use Rattle.sigma_spl.specs.Copies.{IsInside, StoreOnce}
use Rattle.sigma_spl.specs.Merge.{is_within}
use Rattle.sigma_spl.specs.Merged.{PlainMerged}
use Rattle.sigma_spl.specs.Nest.{PlainNest, copies_of}
use Rattle.sigma_spl.specs.Shared.Machine.{plain_machine}
use Rattle.sigma_spl.specs.Shared.Owners.{most_actions}
use Rattle.sigma_spl.specs.Shared.Ready.{IsReadyNest, passes_tables}
use Rattle.sigma_spl.specs.Shared.Running.{CanWork, FindsFactors, HasResidues}

-- passes, the latest first, in their order
abbrev pub in_order : List (List PlainNest) → List (List PlainNest)
in_order [] = []
in_order (zs ∷ ps) = in_order ps ++ zs ∷ []

-- in one phase
abbrev pub plain_phase : ℕ → List (List PlainNest) → PlainMerged
plain_phase n ps = record { size = n; procs = 1; lanes = 1; phases = in_order ps ∷ [] }

pub record IsPlainNest (n m : ℕ) (z : PlainNest) : Type 0 where
  pub work : CanWork (plain_machine n m) z.work
  pub inside : IsInside n (copies_of m z)
  pub factors : FindsFactors z
  pub residues : HasResidues (plain_machine n m) z
  pub ready : IsReadyNest (plain_machine n m) z
  pub within : is_within 64 n (z ∷ []) ≡ true

pub record IsPlainPass (n m : ℕ) (zs : List PlainNest) : Type 0 where
  pub nests : All (IsPlainNest n m) zs
  pub once : StoreOnce n (map (copies_of m) zs)

-- some passes of which a program can be made
pub record ArePlainPasses (n m : ℕ) (ps : List (List PlainNest)) : Type 0 where
  pub size : (1 ≤ n) × (n ≤ max_size)
  pub modulus : (2 ≤ m) × (m < 2 ^ 62)
  pub some : 0 < length ps
  pub passes : All (IsPlainPass n m) (in_order ps)
  pub few : most_actions (plain_machine n m) (in_order ps) < 2 ^ 59
  pub tables : passes_tables (in_order ps) < 2 ^ 32
