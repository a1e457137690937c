use Rattle.std.proofs.Common.{◌≡◌, ℕ, ◌<◌, ◌≤◌}
use Rattle.matrix_meaning.specs.Convolution.{power_sum}
use Rattle.matrix_meaning.proofs.convolution.first_bad_power.Given as goal

abbrev pub invariant-loop-k : goal.invariant-loop-k
invariant-loop-k l = (j : ℕ) → 1 ≤ j → j < l.k → power_sum l.modulus l.n l.w j ≡ 0
