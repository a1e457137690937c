use Rattle.std.proofs.Common.{◌≡◌}
use Rattle.code_gen.specs.Bodies.{loads_at}
use Rattle.code_gen.specs.Views.{body_in}
use Rattle.code_gen.proofs.inputs.loads.Given as goal

-- the loads so far
abbrev pub invariant-loop-register : goal.invariant-loop-register
invariant-loop-register l = body_in l.body ≡ loads_at l.site l.nest l.register
