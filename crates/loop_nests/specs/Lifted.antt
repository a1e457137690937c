-- Nests of a part, which can be made part of a larger array with words of 64 bits.
use Rattle.std.specs.Prelude.{ℕ, ◌+◌, ◌^◌, ◌<◌, ◌≤◌, List, [], ◌∷◌, map, length, Option, Some, None}
use Rattle.sigma_spl.specs.Merge.{copying, place_sum, renumbered}
use Rattle.sigma_spl.specs.Nest.{PlainMultiplier, PlainNest}
use Rattle.perm_algebra.specs.Affine.{Sum, constant, added}
use Rattle.perm_algebra.specs.Room.{CanAdd, HasCounts, constant_of}
use Rattle.operators.specs.Paths.Tensors.{Path}
use Rattle.loop_nests.specs.Placed.{CanPlace}

-- a place of a part that begins a number of words later, in the whole
abbrev pub raised : Path → ℕ → ℕ → Sum → Sum
raised path n before e = place_sum path n 0 (added (constant before) (renumbered (length path) e))

-- it can be made, where `depth` variables have counts
pub record CanRaise (depth : ℕ) (path : Path) (n before : ℕ) (e : Sum) : Type 0 where
  pub counts : HasCounts depth e
  pub adds : CanAdd (constant before) (renumbered (length path) e)
  pub placed : CanPlace path n 0 (added (constant before) (renumbered (length path) e))

abbrev pub AreRaised : ℕ → Path → ℕ → ℕ → List Sum → Type 0
AreRaised depth path n before [] = Unit {0}
AreRaised depth path n before (e ∷ es) = CanRaise depth path n before e × AreRaised depth path n before es

abbrev pub AreCounted : ℕ → List Sum → Type 0
AreCounted m [] = Unit {0}
AreCounted m (e ∷ es) = HasCounts m e × AreCounted m es

abbrev pub IsCounted : ℕ → Option PlainMultiplier → Type 0
IsCounted m None = Unit {0}
IsCounted m (Some d) = AreCounted m d.places

-- its places can be made; the variables are those of its loops, and of the rows and the columns of its work
pub record CanLift (path : Path) (n before : ℕ) (z : PlainNest) : Type 0 where
  pub gathers : AreRaised (length z.counts + 2) path n before z.gathers
  pub scatters : AreRaised (length z.counts + 2) path n before z.scatters
  pub multiplier : IsCounted (length z.counts + 2) z.multiplier

abbrev pub AllLift : Path → ℕ → ℕ → List PlainNest → Type 0
AllLift path n before [] = Unit {0}
AllLift path n before (z ∷ zs) = CanLift path n before z × AllLift path n before zs

abbrev pub AreLifted : Path → ℕ → ℕ → List (List PlainNest) → Type 0
AreLifted path n before [] = Unit {0}
AreLifted path n before (zs ∷ ps) = AllLift path n before zs × AreLifted path n before ps

-- the same nest a number of words later
abbrev pub behind : ℕ → PlainNest → PlainNest
behind before z =
    record {
      counts = z.counts;
      work = z.work;
      gathers = map (added (constant before)) z.gathers;
      multiplier = z.multiplier;
      scatters = map (added (constant before)) z.scatters;
    }

-- each place is a word there
abbrev pub SumsFit : ℕ → List Sum → Type 0
SumsFit before [] = Unit {0}
SumsFit before (e ∷ es) = (before + constant_of e < 2 ^ 64) × SumsFit before es

abbrev pub AllFit : ℕ → List PlainNest → Type 0
AllFit before [] = Unit {0}
AllFit before (z ∷ zs) = SumsFit before z.gathers × SumsFit before z.scatters × AllFit before zs

-- two parts, of n and of k words, and copies of either
pub record CanStand (path : Path) (n k : ℕ) : Type 0 where
  pub left : (0 < n) × (n ≤ 2 ^ 20)
  pub right : (0 < k) × (k ≤ 2 ^ 20)
  pub first : AllLift path (n + k) 0 (copying n)
  pub second : AllLift path (n + k) n (copying k)
