use Rattle.sigma_lower.proofs.formula.+hadamard.Given as goal

abbrev pub decreases-hadamard : goal.decreases-hadamard
decreases-hadamard l = l.n
