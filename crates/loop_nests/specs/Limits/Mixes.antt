-- Multiples of sums, put together.
use Rattle.std.specs.Prelude.{ℕ, Bool, ◌&&◌}
use Rattle.perm_algebra.specs.Affine.{Sum, constant, added, reduced, scaled}
use Rattle.perm_algebra.specs.Room.{can_add, can_scale}

-- a times one sum, and another, where each factor and the constant fit
abbrev pub can_scale_and_add : ℕ → Sum → Sum → Bool
can_scale_and_add a e g = can_scale a e && can_add (scaled a e) g

-- a base and a multiple of a sum, where each factor and the constant fit
abbrev pub can_line : ℕ → ℕ → Sum → Bool
can_line base by e = can_scale by e && can_add (constant base) (scaled by e)

-- a times one sum and b times another, modulo n
abbrev pub mixed : (ℕ → ℕ) → ℕ → ℕ → ℕ → Sum → Sum → Sum
mixed cs n a b e g = reduced cs n (added (scaled a e) (scaled b g))
