use Rattle.std.proofs.Common.{◌≡◌, ◌+◌, ◌*◌, ◌%◌, ◌<◌, slice_index}
use Rattle.operators.specs.Sum.{sum_below}
use Rattle.commands.proofs.sample.weighted_sum.Given as goal

-- the sum so far
abbrev pub invariant-loop-place : goal.invariant-loop-place
invariant-loop-place l = record {
  sum : l.sum ≡ sum_below l.place (λ k. (k + 1) * slice_index l.fn.vector k) % l.fn.modulus;
  small : l.sum < l.fn.modulus;
}
