use Rattle.std.proofs.Common.{◌≡◌, take}
use Rattle.icode.specs.Plain.{plain_body}
use Rattle.code_gen.specs.PassCode.Statements.{straight_body}
use Rattle.code_gen.proofs.kernel_statements.straight.Given as goal

-- the statements of the code so far
abbrev pub invariant-loop-instruction : goal.invariant-loop-instruction
invariant-loop-instruction l = plain_body l.body.items ≡ straight_body (take l.instruction-index l.code)
