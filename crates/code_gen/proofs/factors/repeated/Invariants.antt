use Rattle.std.proofs.Common.{◌≡◌}
use Rattle.operators.specs.Sum.{list_below}
use Rattle.code_gen.proofs.factors.repeated.Given as goal

-- the factors so far
abbrev pub invariant-loop : goal.invariant-loop
invariant-loop l = l.items.items ≡ list_below l.counter (λ _. l.factor)
