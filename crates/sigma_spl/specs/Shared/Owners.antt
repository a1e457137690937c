-- Phases whose passes processors share: each line has one owner; and machines that programs are for.
use Rattle.std.specs.Prelude.{◌≡◌, ℕ, ◌+◌, ◌*◌, ◌/◌, ◌^◌, ◌<◌, ◌≤◌, List, [], ◌∷◌, ◌++◌}
use Rattle.operators.specs.Sizes.{max_size}
use Rattle.sigma_spl.specs.Shared.Running.{IsLoadedBy, IsStoredBy}
use Rattle.sigma_spl.specs.Shared.Costs.{pass_cost, pass_loads}
use Rattle.sigma_spl.specs.Nest.{PlainNest}
use Rattle.operators.specs.declared.target.Target.{Target}

-- each word has an owner, one for a line
pub record IsOwner (h : Target) (owner : ℕ → ℕ) : Type 0 where
  pub lines : (a b : ℕ) → a < h.size → b < h.size → a / h.line ≡ b / h.line → owner a ≡ owner b
  pub procs : (a : ℕ) → a < h.size → owner a < h.procs

-- what a processor loads in these passes is its own, and what it stores
abbrev pub AllOwn : Target → (ℕ → ℕ) → List (List PlainNest) → Type 0
AllOwn h owner [] = Unit {0}
AllOwn h owner (zs ∷ ps) =
    ((q w : ℕ) → q < h.procs → IsLoadedBy h zs q w → owner w ≡ q)
    × ((q w : ℕ) → q < h.procs → IsStoredBy h zs q w → owner w ≡ q) × AllOwn h owner ps

-- the first pass of a phase may load from an array that no processor writes in the phase
pub record IsShared (h : Target) (ps : List (List PlainNest)) : Type 0 where
  pub owner : ℕ → ℕ
  pub is_owner : IsOwner h owner
  pub owns : AllOwn h owner ps

abbrev pub FirstOwns : Target → (ℕ → ℕ) → List (List PlainNest) → Type 0
FirstOwns h owner [] = Unit {0}
FirstOwns h owner (zs ∷ ps) =
    ((q w : ℕ) → q < h.procs → IsStoredBy h zs q w → owner w ≡ q) × AllOwn h owner ps

pub record IsFirstShared (h : Target) (ps : List (List PlainNest)) : Type 0 where
  pub owner : ℕ → ℕ
  pub is_owner : IsOwner h owner
  pub owns : FirstOwns h owner ps

abbrev pub AllShared : Target → List (List (List PlainNest)) → Type 0
AllShared h [] = Unit {0}
AllShared h (ps ∷ more) = IsShared h ps × AllShared h more

abbrev pub ArePhasesShared : Target → List (List (List PlainNest)) → Type 0
ArePhasesShared h [] = Unit {0}
ArePhasesShared h (ps ∷ more) = IsFirstShared h ps × AllShared h more

-- all passes, one after the other
abbrev pub all_passes : List (List (List PlainNest)) → List (List PlainNest)
all_passes [] = []
all_passes (ps ∷ more) = ps ++ all_passes more

-- no more actions than these: operations, loads, stores, and a zero for each row
abbrev pub most_actions : Target → List (List PlainNest) → ℕ
most_actions h [] = 0
most_actions h (zs ∷ ps) = pass_cost 1 h.modulus zs + pass_loads zs + 2 * h.size + most_actions h ps

-- a machine that programs may be for
pub record IsHost (h : Target) : Type 0 where
  pub size : (1 ≤ h.size) × (h.size ≤ max_size)
  pub modulus : (2 ≤ h.modulus) × (h.modulus < 2 ^ 62)
  pub procs : (1 ≤ h.procs) × (h.procs ≤ 16)
  pub line : (1 ≤ h.line) × (h.line ≤ 64)
  pub lanes : (1 ≤ h.lanes) × (h.lanes ≤ 16)
