-- Reductions modulo m by doubles.
use Rattle.std.specs.Prelude.{◌≡◌, ℕ, ◌+◌, ◌*◌, ◌/◌, ◌^◌, ◌<◌, ◌≤◌, ℤ, pos, ◌+ℤ◌, ◌-ℤ◌, ◌*ℤ◌, unsigned_abs, int_lt}
use Rattle.std.specs.Prelude.{if◌then◌else◌, min}
use Rattle.double_code.specs.Rounding.{nearest, rounded, double_quotient}
use Rattle.double_code.specs.Products.{IsInverse, residue}

-- x less a multiple of m, as doubles do it
abbrev pub reduced : ℕ → ℕ → ℕ → ℤ → ℤ
reduced m k e x = rounded (x -ℤ double_quotient k e x *ℤ pos m)

-- the residue that x stands for, from 0 to m - 1
abbrev pub settled : ℕ → ℕ → ℕ → ℤ → ℤ
settled m k e x = if int_lt (reduced m k e x) (pos 0) then rounded (reduced m k e x +ℤ pos m) else reduced m k e x

-- Numbers up to this are doubles, and their quotients by m are whole numbers that doubles find
abbrev pub limit_of : ℕ → ℕ
limit_of m = min (2 ^ 53) (2 ^ 50 * m)

-- a reduction is exact
pub record IsDoubleReduction (m k e : ℕ) (x : ℤ) : Type 0 where
  pub quotient : double_quotient k e x ≡ nearest (x *ℤ pos k) (2 ^ e)
  pub result : reduced m k e x ≡ x -ℤ double_quotient k e x *ℤ pos m
  pub same : residue m (reduced m k e x) ≡ residue m x
  pub bound : unsigned_abs (reduced m k e x) ≤ m / 2 + 1
  pub whole : settled m k e x ≡ pos (residue m x)

abbrev pub DoubleReductions : Type 0
DoubleReductions =
    (m k e : ℕ) (x : ℤ) → 1 ≤ m → m < 2 ^ 50 → IsInverse m k e → unsigned_abs x ≤ limit_of m →
    IsDoubleReduction m k e x
