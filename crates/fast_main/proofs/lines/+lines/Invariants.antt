use Rattle.std.proofs.Common.{◌≡◌, ◌+◌, drop}
use Rattle.icode.specs.Plain.{plain_body}
use Rattle.fast_main.specs.Lines.{lines_of_body}
use Rattle.fast_main.proofs.lines.+lines.Given as goal

abbrev pub invariant-lines_of_body-loop-stmt : goal.invariant-lines_of_body-loop-stmt
invariant-lines_of_body-loop-stmt l =
    l.lines + lines_of_body (plain_body (drop l.stmt-index l.body)) ≡ lines_of_body (plain_body l.body)
