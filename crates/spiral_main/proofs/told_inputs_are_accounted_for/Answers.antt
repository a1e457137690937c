use Rattle.spiral_main.proofs.Accounts.{told_input}
use Rattle.spiral_main.proofs.told_inputs_are_accounted_for.Goals as goal

pub returns : goal.returns
returns c = told_input
