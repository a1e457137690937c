-- Paths and factors whose sizes are words.
use Rattle.std.specs.Prelude.{ℕ, ◌*◌, ◌^◌, ◌<◌, [], ◌∷◌}
use Rattle.sigma_spl.specs.Nest.{PlainFactors, values, twiddles, repeated, spread, factor_count}
use Rattle.operators.specs.Paths.Tensors.{Path, size_under}

-- the whole, and what is under each of its tensors
abbrev pub HasRoom : Path → ℕ → Type 0
HasRoom [] n = n < 2 ^ 64
HasRoom (t ∷ path) n = (size_under (t ∷ path) n < 2 ^ 64) × HasRoom path n

-- how many factors there are is a word
abbrev pub HasCount : PlainFactors → Type 0
HasCount (values entries) = Unit {0}
HasCount (twiddles rows cols root) = rows * cols < 2 ^ 64
HasCount (repeated value count) = Unit {0}
HasCount (spread path factors) = HasCount factors × HasRoom path (factor_count factors)
