use Rattle.std.proofs.Common.{◌≡◌, drop}
use Rattle.icode.specs.Plain.{plain_phases}
use Rattle.fast_main.specs.Lines.{line_in_phases}
use Rattle.fast_main.proofs.lines.line_in_phases.Given as goal

abbrev pub invariant-loop-at : goal.invariant-loop-at
invariant-loop-at l =
    line_in_phases l.phase l.number l.at l.line (plain_phases (drop l.at l.phases))
    ≡ line_in_phases l.phase l.number 0 l.first (plain_phases l.phases)
