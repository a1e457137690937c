use Rattle.std.proofs.Common.{◌≡◌}
use Rattle.code_gen.specs.Bodies.{copies_at}
use Rattle.code_gen.specs.Views.{body_in}
use Rattle.code_gen.proofs.copy_statements.statements_of_copies.Given as goal

-- the copies so far
abbrev pub invariant-loop-number : goal.invariant-loop-number
invariant-loop-number l = body_in l.body ≡ copies_at l.site l.nest l.number
