-- Straight-line code whose operations put one register after another.
use Rattle.std.specs.Prelude.{◌≡◌, ℕ, ◌+◌, ◌<◌, List, [], ◌∷◌}
use Rattle.kernel_gen.specs.declared.straight.KernelOp.{KernelOp}
use Rattle.kernel_gen.specs.declared.straight.KernelOp.TheVariants.{Add, Sub, Neg, Mul}

-- it puts the next free register, and reads registers before that
abbrev pub IsNext : ℕ → KernelOp → Type 0
IsNext next (Add r x y) = (r ≡ next) × (x < next) × (y < next)
IsNext next (Sub r x y) = (r ≡ next) × (x < next) × (y < next)
IsNext next (Neg r x) = (r ≡ next) × (x < next)
IsNext next (Mul r x c) = (r ≡ next) × (x < next)

abbrev pub AreOrdered : ℕ → List KernelOp → Type 0
AreOrdered next [] = Unit {0}
AreOrdered next (i ∷ code) = IsNext next i × AreOrdered (next + 1) code
