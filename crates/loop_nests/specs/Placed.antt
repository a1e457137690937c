-- Where a place under tensors can be made with words of 64 bits.
use Rattle.std.specs.Prelude.{ℕ, ◌+◌, ◌-◌, ◌^◌, ◌<◌, List, [], ◌∷◌}
use Rattle.perm_algebra.specs.Affine.{Sum, constant, variable, scaled}
use Rattle.perm_algebra.specs.Room.{CanScale, CanAdd, HasCounts}
use Rattle.sigma_spl.specs.Merge.{place_sum}
use Rattle.sigma_spl.specs.Room.{HasRoom}
use Rattle.operators.specs.declared.paths.Tensor.TheVariants.{Blocks, Columns}
use Rattle.operators.specs.Paths.Tensors.{Path, size_under}

-- every number on the way to a place of the path fits, where its variables begin at d
abbrev pub CanPlace : Path → ℕ → ℕ → Sum → Type 0
CanPlace [] n d e = Unit {0}
CanPlace (Blocks c ∷ path) n d e =
    (d + 1 < 2 ^ 64) × HasRoom path n × CanPlace path n (d + 1) e
    × CanScale (size_under path n) (variable 1 d (constant 0))
    × CanAdd (scaled (size_under path n) (variable 1 d (constant 0))) (place_sum path n (d + 1) e)
CanPlace (Columns c ∷ path) n d e =
    (d + 1 < 2 ^ 64) × HasRoom path n × CanPlace path n (d + 1) e
    × CanScale c (place_sum path n (d + 1) e)
    × CanAdd (scaled c (place_sum path n (d + 1) e)) (variable 1 d (constant 0))

-- and of each item
abbrev pub AllCanPlace : Path → ℕ → List Sum → Type 0
AllCanPlace path n [] = Unit {0}
AllCanPlace path n (e ∷ es) = CanPlace path n 0 e × AllCanPlace path n es

-- the numbers of all variables, grown by k, are words
abbrev pub CanRenumber : ℕ → Sum → Type 0
CanRenumber k e = HasCounts (2 ^ 64 - k) e
