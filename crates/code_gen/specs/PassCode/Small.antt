-- Sums whose expressions stand within the limits of programs.
use Rattle.std.specs.Prelude.{◌≡◌, ℕ, ◌^◌, ◌<◌, ◌≤◌, true, IsTrue}
use Rattle.icode.specs.Limits.{is_expr_within}
use Rattle.code_gen.specs.PassCode.Conditions.{CanWrite, FitsWord}
use Rattle.code_gen.specs.PassCode.Expressions.{expr_of, factor_at}
use Rattle.sigma_spl.specs.Shared.Machine.{PlainFrame}
use Rattle.sigma_spl.specs.Merge.{is_limited}
use Rattle.perm_algebra.specs.Affine.{Sum, constant, variable, remainder, quotient, levels, parts}
use Rattle.perm_algebra.specs.Room.{constant_of}

-- the constant, and the factors of variables, all their parts together
pub record HasSmall (e : Sum) : Type 0 where
  pub constant_is : constant_of e < 2 ^ 32
  pub factors : (d : ℕ) → factor_at d e < 2 ^ 32

-- a factor or a divisor
abbrev pub IsSmallPositive : ℕ → Type 0
IsSmallPositive n = (0 < n) × (n < 2 ^ 32)

-- what is divided, at every level
abbrev pub DividesSmall : Sum → Type 0
DividesSmall (constant c) = Unit {0}
DividesSmall (variable f d rest) = DividesSmall rest
DividesSmall (remainder f of m rest) =
    IsSmallPositive f × IsSmallPositive m × HasSmall of × DividesSmall of × DividesSmall rest
DividesSmall (quotient f of m rest) =
    IsSmallPositive f × IsSmallPositive m × HasSmall of × DividesSmall of × DividesSmall rest

pub record IsSmallSum (e : Sum) : Type 0 where
  pub whole : HasSmall e
  pub divided : DividesSmall e
  pub few : parts e ≤ 64
  pub flat : levels e ≤ 64

-- the processor's variable is none of the loops'
abbrev pub IsFrame : PlainFrame → Type 0
IsFrame f = f.shared ≡ true → 0 < f.first_loop

abbrev pub ExpressionsAreWithin : Type 0
ExpressionsAreWithin =
    (f : PlainFrame) (open_loops : ℕ) (e : Sum) → IsFrame f → open_loops ≤ 64 → IsSmallSum e →
    IsTrue (is_expr_within (expr_of f open_loops e) open_loops)

-- ---- by merging's test

pub record CanBeCoded (cs : ℕ → ℕ) (e : Sum) : Type 0 where
  pub small : IsSmallSum e
  pub fits : FitsWord cs e
  pub writable : CanWrite e

-- a place of few parts, in an array of n words, that passes merging's test
abbrev pub TestedSumsAreCoded : Type 0
TestedSumsAreCoded =
    (room n : ℕ) (cs : ℕ → ℕ) (e : Sum) → room ≤ 64 → n ≤ 2 ^ 20 → is_limited room n cs e ≡ true → CanBeCoded cs e
