use Rattle.c_meaning.proofs.FunctionValues.{functions_are_trees, functions_compute}
use Rattle.c_meaning.proofs.laws.functions.Goals as goal

pub returns : goal.returns
returns _ = record { trees = functions_are_trees; values = functions_compute }
