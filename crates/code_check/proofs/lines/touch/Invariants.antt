use Rattle.std.proofs.Common.{◌≡◌, ◌+◌, ◌-◌}
use Rattle.std.specs.List.{range_with_len}
use Rattle.icode.specs.Machine.{lines_of}
use Rattle.code_check.specs.Uses.{touched_all}
use Rattle.code_check.proofs.lines.touch.Given as goal

abbrev pub invariant-loop-lane : goal.invariant-loop-lane
invariant-loop-lane l =
    touched_all l.proc l.writes (lines_of l.program.line (range_with_len (l.address + l.lane) (l.program.lanes - l.lane))) l.lines
    ≡ touched_all l.proc l.writes (lines_of l.program.line (range_with_len l.address l.program.lanes)) l.fn.lines
