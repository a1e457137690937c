use Rattle.std.proofs.Common.{◌≡◌, ◌+◌}
use Rattle.code_gen.specs.PassCode.Statements.{in_a_row}
use Rattle.code_gen.specs.Bodies.{stored_at}
use Rattle.code_gen.specs.Views.{body_in}
use Rattle.code_gen.proofs.tile_statements.outputs.Given as goal

-- the stores so far
abbrev pub invariant-loop-number : goal.invariant-loop-number
invariant-loop-number l =
    body_in l.body
    ≡ in_a_row l.number (λ k. stored_at l.site 1 l.nest k (l.lanes + k) (l.lanes + l.lanes + k))
