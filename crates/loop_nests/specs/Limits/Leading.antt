-- Functions that lead from places to places within the limits.
use Rattle.std.specs.Prelude.{ℕ, ◌<◌, Bool, ◌&&◌, List, [], ◌∷◌}
use Rattle.index_fn.specs.Mapping.{Mapping, IsDefinedAt}
use Rattle.sigma_spl.specs.Good.{IsFormed}
use Rattle.sigma_spl.specs.Merge.{is_limited}
use Rattle.perm_algebra.specs.Affine.{Sum, simplified}
use Rattle.perm_algebra.specs.Room.{has_room}

-- the place of f at e is within the limits, and every number on the way fits 64 bits
abbrev pub can_lead : ℕ → ℕ → (ℕ → ℕ) → Mapping → Sum → Bool
can_lead room n cs f e = has_room cs f e && is_limited room n cs (simplified cs f e)

-- functions that can be simplified at each word of an array of n
abbrev pub CanCarry : ℕ → List Mapping → Type 0
CanCarry n [] = Unit {0}
CanCarry n (f ∷ fs) = IsFormed f × ((i : ℕ) → i < n → IsDefinedAt f i) × CanCarry n fs
