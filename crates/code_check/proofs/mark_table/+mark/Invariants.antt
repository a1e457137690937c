use Rattle.code_check.proofs.mark_table.+mark.Given as goal

abbrev pub decreases-mark : goal.decreases-mark
decreases-mark l = l.count
