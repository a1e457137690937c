-- What the emission of nests and passes asks for.
use Rattle.std.specs.Prelude.{◌≡◌, ℕ, ◌*◌, ◌^◌, ◌<◌, ◌≤◌, List, [], ◌∷◌, length, All, Option, Some, None}
use Rattle.code_gen.specs.PassActions.Acts.{nest_registers}
use Rattle.sigma_spl.specs.Shared.Running.{CanRunNest}
use Rattle.operators.specs.declared.target.Target.{Target}
use Rattle.code_gen.specs.PassCode.Conditions.{CanWrite, CanWriteNest}
use Rattle.sigma_spl.specs.Merged.{PlainMerged}
use Rattle.sigma_spl.specs.Nest.{PlainFactors, values, twiddles, repeated, spread, PlainMultiplier, PlainNest}
use Rattle.sigma_spl.specs.Nest.{factor_count}
use Rattle.perm_algebra.specs.Affine.{Sum}
use Rattle.operators.specs.Paths.Tensors.{size_under}

-- a place for each of n registers, which can be written
pub record HasPlaces (n : ℕ) (sums : List Sum) : Type 0 where
  pub enough : n ≤ length sums
  pub writable : All CanWrite sums

-- the places where the first n registers go, and those of their factors
pub record CanStore (n : ℕ) (z : PlainNest) : Type 0 where
  pub scatters : HasPlaces n z.scatters
  pub multiplies : (d : PlainMultiplier) → z.multiplier ≡ Some d → HasPlaces n d.places

-- the entries of a diagonal can be listed: there are some, and their numbers are words
abbrev pub CanList : PlainFactors → Type 0
CanList (values entries) = Unit {0}
CanList (twiddles r s root) = (0 < s) × (r * s < 2 ^ 32)
CanList (repeated v n) = Unit {0}
CanList (spread path factors) =
    CanList factors
    × (0 < size_under path (factor_count factors))
    × (size_under path (factor_count factors) < 2 ^ 32)

abbrev pub HasFactors : Option PlainMultiplier → Type 0
HasFactors None = Unit {0}
HasFactors (Some d) = CanList d.factors

-- a nest that can be run and written, in registers of few numbers
pub record CanEmit (h : Target) (z : PlainNest) : Type 0 where
  pub modulus : 2 ≤ h.modulus
  pub lanes : (1 ≤ h.lanes) × (h.lanes ≤ 16)
  pub runs : CanRunNest h z
  pub writes : CanWriteNest h z
  pub few : nest_registers h.modulus z z.work < 2 ^ 20

abbrev pub CanEmitAll : Target → List (List PlainNest) → Type 0
CanEmitAll h [] = Unit {0}
CanEmitAll h (zs ∷ ps) = All (CanEmit h) zs × CanEmitAll h ps

abbrev pub CanEmitPhases : Target → List (List (List PlainNest)) → Type 0
CanEmitPhases h [] = Unit {0}
CanEmitPhases h (ps ∷ more) = CanEmitAll h ps × CanEmitPhases h more

-- the machine of merged passes, for residues of a modulus and lines of a number of words
abbrev pub machine_for : ℕ → ℕ → PlainMerged → Target
machine_for modulus line g =
    record { size = g.size; modulus = modulus; procs = g.procs; line = line; lanes = g.lanes }
