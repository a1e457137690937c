-- Products modulo m by doubles, with what is left of each rounding.
use Rattle.std.specs.Prelude.{◌≡◌, ℕ, ◌+◌, ◌-◌, ◌*◌, ◌/◌, ◌^◌, ◌<◌, ◌≤◌, ℤ, pos, ◌+ℤ◌, ◌-ℤ◌, ◌*ℤ◌, unsigned_abs}
use Rattle.std.specs.Int.{int_rem_euclid}
use Rattle.std.specs.Float.Ieee.{size}
use Rattle.double_code.specs.Rounding.{nearest_double, nearest, rounded, IsDouble, double_quotient}

-- k / 2 ^ e is the double nearest to 1 / m
pub record IsInverse (m k e : ℕ) : Type 0 where
  pub low : 2 ^ 52 * m ≤ 2 ^ e
  pub high : 2 ^ e < 2 ^ 53 * m
  pub near : k ≡ nearest_double (2 ^ e) m

-- the exponent and the number of such a double
abbrev pub exponent_of : ℕ → ℕ
exponent_of m = 52 + size (m - 1)

abbrev pub inverse_of : ℕ → ℕ
inverse_of m = nearest_double (2 ^ exponent_of m) m

-- each modulus has one
abbrev pub InversesAreThere : Type 0
InversesAreThere = (m : ℕ) → 1 ≤ m → IsInverse m (inverse_of m) (exponent_of m)

-- the residue that z stands for
abbrev pub residue : ℕ → ℤ → ℕ
residue m z = unsigned_abs (int_rem_euclid z (pos m))

-- a * c less a multiple of m, as doubles do it: h is the rounded product, and each step after it is rounded, too
abbrev pub double_product : ℕ → ℕ → ℕ → ℤ → ℤ → ℤ
double_product m k e a c =
    let h = rounded (a *ℤ c) in
    rounded (rounded (h -ℤ double_quotient k e h *ℤ pos m) +ℤ rounded (a *ℤ c -ℤ h))

-- what a product is at most, where the number that is multiplied is at most this
abbrev pub product_bound : ℕ → ℕ → ℕ
product_bound m most = m / 2 + most * m / 2 ^ 53 + 1

-- every step of the product but h and the quotient is exact, and the quotient is a whole number
pub record IsDoubleProduct (m k e most : ℕ) (a c : ℤ) : Type 0 where
  pub rest : IsDouble (a *ℤ c -ℤ rounded (a *ℤ c))
  pub quotient : double_quotient k e (rounded (a *ℤ c)) ≡ nearest (rounded (a *ℤ c) *ℤ pos k) (2 ^ e)
  pub remainder : IsDouble (rounded (a *ℤ c) -ℤ double_quotient k e (rounded (a *ℤ c)) *ℤ pos m)
  pub result : double_product m k e a c ≡ a *ℤ c -ℤ double_quotient k e (rounded (a *ℤ c)) *ℤ pos m
  pub same : residue m (double_product m k e a c) ≡ residue m (a *ℤ c)
  pub bound : unsigned_abs (double_product m k e a c) ≤ product_bound m most

-- A product by a factor of at most half of the modulus
abbrev pub DoubleProducts : Type 0
DoubleProducts =
    (m k e most : ℕ) (a c : ℤ) → 1 ≤ m → m < 2 ^ 50 → IsInverse m k e → unsigned_abs a ≤ most → most + 2 ≤ 2 ^ 52 →
    2 * unsigned_abs c ≤ m → IsDoubleProduct m k e most a c
