-- Where the variables are below their counts: numbers that fit 64 bits, and numbers that are the same.
use Rattle.std.specs.Prelude.{◌≡◌, ℕ, ◌^◌, ◌<◌}
use Rattle.perm_algebra.specs.Affine.{Sum, constant, variable, remainder, quotient, value, AreBelowCounts}

-- each variable is below its count
unfoldable pub InRange : (ℕ → ℕ) → (ℕ → ℕ) → Type 0
InRange cs vs = AreBelowCounts vs cs

abbrev pub Stays : (ℕ → ℕ) → ((ℕ → ℕ) → ℕ) → Type 0
Stays cs f = (vs : ℕ → ℕ) → InRange cs vs → f vs < 2 ^ 64

abbrev pub Agree : (ℕ → ℕ) → ((ℕ → ℕ) → ℕ) → ((ℕ → ℕ) → ℕ) → Type 0
Agree cs f g = (vs : ℕ → ℕ) → InRange cs vs → f vs ≡ g vs

-- each variable has one of n counts, each divisor is at least 1, and what is divided fits 64 bits
abbrev pub IsAffine : ℕ → (ℕ → ℕ) → Sum → Type 0
IsAffine n cs (constant c) = Unit {0}
IsAffine n cs (variable f d rest) = (d < n) × IsAffine n cs rest
IsAffine n cs (remainder f of m rest) = (0 < m) × IsAffine n cs of × Stays cs (value of) × IsAffine n cs rest
IsAffine n cs (quotient f of m rest) = (0 < m) × IsAffine n cs of × Stays cs (value of) × IsAffine n cs rest
