use Rattle.std.proofs.Common.{◌≡◌, drop}
use Rattle.code_check.specs.Uses.{first_sharing}
use Rattle.code_check.proofs.lines.first_sharing.Given as goal

abbrev pub invariant-loop-line : goal.invariant-loop-line
invariant-loop-line l = first_sharing l.phase l.line (drop l.line l.lines) ≡ first_sharing l.phase 0 l.lines
