use Rattle.std.proofs.Common.{◌≡◌, drop}
use Rattle.icode.specs.Plain.{plain_body}
use Rattle.fast_main.specs.Lines.{line_in_body}
use Rattle.fast_main.proofs.lines.line_in_body.Given as goal

abbrev pub invariant-loop-at : goal.invariant-loop-at
invariant-loop-at l =
    line_in_body l.number l.at l.line (plain_body (drop l.at l.body)) ≡ line_in_body l.number 0 l.first (plain_body l.body)
