use Rattle.double_code.proofs.note.+put_bounds.Given as goal

abbrev pub decreases-put_bounds : goal.decreases-put_bounds
decreases-put_bounds l = l.count
