use Rattle.std.proofs.Common.{◌≡◌, map, take}
use Rattle.icode.specs.Plain.{plain_part}
use Rattle.icode.proofs.program.+copied.Given as goal

abbrev pub invariant-Expr::copied-loop-part : goal.invariant-Expr::copied-loop-part
invariant-Expr::copied-loop-part l = map plain_part l.parts.items ≡ map plain_part (take l.part-index l.part-items)
