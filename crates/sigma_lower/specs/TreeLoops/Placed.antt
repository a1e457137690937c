-- The places of passes as sums of the loops' variables.
use Rattle.std.specs.Prelude.{◌≡◌, ℕ, ◌+◌, ◌*◌, ◌^◌, ◌<◌, ◌≤◌, true, List, [], ◌∷◌, ◌++◌, Some}
use Rattle.index_fn.specs.Mapping.{Mapping}
use Rattle.sigma_spl.specs.Merge.{total, are_small}
use Rattle.perm_algebra.specs.Affine.{Sum, constant, variable, remainder, quotient, top, parts, HasNoQuotient, IsProper}
use Rattle.perm_algebra.specs.Affine.{simplified}
use Rattle.perm_algebra.specs.Room.{HasRoomFor}
use Rattle.sigma_spl.specs.Work.{PlainWork, kernel, rows, horner, tile, copy, work_size}
use Rattle.sigma_lower.specs.TreeTerms.Wrapped.{inner_of}
use Rattle.sigma_lower.specs.TreeLoops.Merge.{PlainDiagonal, PlainPass}
pub use Rattle.sigma_spl.specs.Merge.{place_sum, all_simplified}
use Rattle.operators.specs.declared.target.Target.{Target}
use Rattle.operators.specs.declared.paths.Tensor.TheVariants.{Blocks, Columns}
use Rattle.operators.specs.Paths.Tensors.{Path}

-- the variables from d on run below the path's factors, each at least 2, and no size is 0
abbrev pub AreCounts : Path → ℕ → ℕ → (ℕ → ℕ) → Type 0
AreCounts [] n d cs = 0 < n
AreCounts (Blocks c ∷ path) n d cs = (cs d ≡ c) × (2 ≤ c) × AreCounts path n (d + 1) cs
AreCounts (Columns c ∷ path) n d cs = (cs d ≡ c) × (2 ≤ c) × AreCounts path n (d + 1) cs

-- what is divided by m, and m itself, stand in small numbers
pub record IsSmallPart (cs : ℕ → ℕ) (of : Sum) (m : ℕ) : Type 0 where
  pub divisor : m < 2 ^ 32
  pub sum : total of < 2 ^ 32
  pub word : top of cs < 2 ^ 64
  pub small : are_small cs of ≡ true
  pub plain : HasNoQuotient of

-- each remainder is of small numbers, and there is no quotient
abbrev pub IsTame : (ℕ → ℕ) → Sum → Type 0
IsTame cs (constant c) = Unit {0}
IsTame cs (variable f d rest) = IsTame cs rest
IsTame cs (remainder f of m rest) = IsSmallPart cs of m × IsTame cs rest
IsTame cs (quotient f of m rest) = ⊥

-- a sum that stays below the size, in few parts, each of which counts
pub record Fits (size : ℕ) (e : Sum) (cs : ℕ → ℕ) : Type 0 where
  pub proper : IsProper e cs
  pub small : top e cs < size
  pub tame : IsTame cs e
  pub few : 2 ^ parts e ≤ size * size

-- one function after the other keeps it in n words and leads it to
-- one of count places, and every number in between fits 64 bits
abbrev pub IsCarried : (ℕ → ℕ) → ℕ → ℕ → List Mapping → Sum → Type 0
IsCarried cs n count [] e = Fits count e cs
IsCarried cs n count (f ∷ fs) e = Fits n e cs × HasRoomFor cs f e × IsCarried cs n count fs (simplified cs f e)

-- the functions that lead to the place of an item in its ct's diagonal
abbrev pub diagonal_places : PlainDiagonal → List Mapping
diagonal_places d = d.places ++ inner_of d.path (d.rows * d.cols) ∷ []

-- no place of the item that e names in its copy is over a limit, nor is any on the way there: where it is loaded
-- from, where it is stored, and its place in its ct's diagonal
pub record ArePlacesLimited (h : Target) (p : PlainPass) (cs : ℕ → ℕ) (e : Sum) : Type 0 where
  pub loads : IsCarried cs h.size h.size p.befores (place_sum p.path (work_size p.work) 0 e)
  pub stores : IsCarried cs h.size h.size p.afters (place_sum p.path (work_size p.work) 0 e)
  pub factors : (d : PlainDiagonal) → p.diagonal ≡ Some d →
      IsCarried cs h.size (d.rows * d.cols) (diagonal_places d) (place_sum p.path (work_size p.work) 0 e)

-- a sum that may name an item: a number for a tile, whose items are written out one by one, and any for other work
abbrev pub IsName : PlainWork → Sum → Type 0
IsName (kernel trees) e = Unit {0}
IsName (rows root size) e = Unit {0}
IsName (horner root size) e = Unit {0}
IsName (tile v) e = (k : ℕ) × (e ≡ constant k)
IsName (copy size) e = Unit {0}

abbrev pub IsLimitedPass : Target → PlainPass → Type 0
IsLimitedPass h p =
    (cs : ℕ → ℕ) (e : Sum) → AreCounts p.path (work_size p.work) 0 cs → Fits (work_size p.work) e cs → IsName p.work e →
    ArePlacesLimited h p cs e
