-- Sums and differences by doubles.
use Rattle.std.specs.Prelude.{◌+◌, ◌^◌, ◌≤◌, ℤ, ◌+ℤ◌, ◌-ℤ◌, unsigned_abs}
use Rattle.double_code.specs.Rounding.{IsDouble}

-- They are exact up to 2 ^ 53
abbrev pub DoubleSums : Type 0
DoubleSums =
    (x y : ℤ) → unsigned_abs x + unsigned_abs y ≤ 2 ^ 53 → IsDouble (x +ℤ y) × IsDouble (x -ℤ y)
