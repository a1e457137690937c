use Rattle.std.proofs.Common.{◌≡◌, ◌+◌, slice_index}
use Rattle.code_gen.specs.PassCode.Statements.{in_a_row}
use Rattle.code_gen.specs.Bodies.{stored_at}
use Rattle.code_gen.specs.Views.{body_in}
use Rattle.code_gen.proofs.kernel_statements.outputs.Given as goal

-- the stores so far
abbrev pub invariant-loop-k : goal.invariant-loop-k
invariant-loop-k l =
    body_in l.body
    ≡ in_a_row l.k (λ k. stored_at l.site 0 l.nest k (slice_index l.made.outputs.items k) (l.made.regs + k))
