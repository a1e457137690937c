-- Passes whose places name only variables that have counts.
use Rattle.std.specs.Prelude.{ℕ, ◌+◌, List, [], ◌∷◌, length, Option, Some, None}
use Rattle.perm_algebra.specs.Affine.{Sum}
use Rattle.perm_algebra.specs.Room.{IsReady}
use Rattle.sigma_spl.specs.Nest.{PlainMultiplier, PlainNest}
use Rattle.sigma_spl.specs.Work.{HasWords}

-- the first n variables have counts
abbrev pub AreReady : ℕ → List Sum → Type 0
AreReady depth [] = Unit {0}
AreReady depth (e ∷ es) = IsReady depth e × AreReady depth es

abbrev pub IsReadyMultiplier : ℕ → Option PlainMultiplier → Type 0
IsReadyMultiplier depth None = Unit {0}
IsReadyMultiplier depth (Some d) = AreReady depth d.places

pub record IsReadyNest (z : PlainNest) : Type 0 where
  pub words : HasWords z.work
  pub gathers : AreReady (length z.counts + 2) z.gathers
  pub scatters : AreReady (length z.counts + 2) z.scatters
  pub multiplier : IsReadyMultiplier (length z.counts + 2) z.multiplier

abbrev pub IsReadyPass : List PlainNest → Type 0
IsReadyPass [] = Unit {0}
IsReadyPass (z ∷ zs) = IsReadyNest z × IsReadyPass zs

abbrev pub AreReadyPasses : List (List PlainNest) → Type 0
AreReadyPasses [] = Unit {0}
AreReadyPasses (zs ∷ ps) = IsReadyPass zs × AreReadyPasses ps
