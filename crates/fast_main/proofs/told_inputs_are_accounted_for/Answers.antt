use Rattle.fast_main.proofs.Told.{told_input}
use Rattle.fast_main.proofs.told_inputs_are_accounted_for.Goals as goal

pub returns : goal.returns
returns c = told_input
