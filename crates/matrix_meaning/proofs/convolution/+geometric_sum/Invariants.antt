use Rattle.matrix_meaning.proofs.convolution.+geometric_sum.Given as goal

abbrev pub decreases-geometric_sum : goal.decreases-geometric_sum
decreases-geometric_sum l = l.n
