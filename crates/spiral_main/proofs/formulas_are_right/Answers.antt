use Rattle.spiral_main.proofs.FormulaTheorem as theorem
use Rattle.spiral_main.proofs.formulas_are_right.Goals as goal

pub returns : goal.returns
returns c = theorem.formulas_are_right
