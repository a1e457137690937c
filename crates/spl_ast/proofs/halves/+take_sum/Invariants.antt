use Rattle.spl_ast.proofs.halves.+take_sum.Given as goal

-- half of the parts are fewer
abbrev pub decreases-take_sum : goal.decreases-take_sum
decreases-take_sum l = l.count
