use Rattle.std.proofs.Common.{◌≡◌, ◌+◌, ◌-◌}
use Rattle.code_check.specs.Marks.{are_marked}
use Rattle.code_check.proofs.mark_table.are_marked.Given as goal

-- whether all are marked is whether those that are left are
abbrev pub invariant-loop-place : goal.invariant-loop-place
invariant-loop-place l = are_marked l.count l.marks l.from ≡ are_marked (l.count - l.place) l.marks (l.from + l.place)
