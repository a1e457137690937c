use Rattle.std.proofs.Common.{ℕ, ◌<◌}
use Rattle.tree_model.specs.Admissible.{Fits}
use Rattle.tree_model.proofs.context.divides_of_one.Given as goal

-- no smaller left part fits
abbrev pub invariant-loop-r : goal.invariant-loop-r
invariant-loop-r l = (k : ℕ) → k < l.r → ((s : ℕ) × Fits l.c k s) → ⊥
