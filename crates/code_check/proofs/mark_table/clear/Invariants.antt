use Rattle.std.proofs.Common.{◌≡◌, false, take, replicate}
use Rattle.code_check.proofs.mark_table.clear.Given as goal

abbrev pub invariant-loop-entry : goal.invariant-loop-entry
invariant-loop-entry l = take l.entry-index l.marks ≡ replicate l.entry-index false
