use Rattle.schedules.proofs.random.+stride_of.Given as goal

abbrev pub decreases-stride_of : goal.decreases-stride_of
decreases-stride_of l = l.count
