use Rattle.two_tables.proofs.cuts.+widest.Given as goal

abbrev pub decreases-widest : goal.decreases-widest
decreases-widest l = l.tries
