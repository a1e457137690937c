-- Factors of products by doubles: of the two numbers from 1 - m to m - 1 that stand for a residue, the smaller.
use Rattle.std.specs.Prelude.{◌≡◌, ℕ, ◌*◌, ◌<◌, ◌≤◌, ℤ, pos, ◌-ℤ◌, nat_le, unsigned_abs, if◌then◌else◌}
use Rattle.double_code.specs.Products.{residue}

abbrev pub centred : ℕ → ℕ → ℤ
centred m c = if nat_le (2 * c) m then pos c else pos c -ℤ pos m

-- A factor is at most half of the modulus, as products want it
abbrev pub FactorsAreCentred : Type 0
FactorsAreCentred =
    (m c : ℕ) → c < m → (2 * unsigned_abs (centred m c) ≤ m) × (residue m (centred m c) ≡ c)
