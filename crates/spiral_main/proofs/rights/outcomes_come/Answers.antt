use Rattle.spiral_main.proofs.RightFront.{right_success}
use Rattle.spiral_main.proofs.rights.outcomes_come.Goals as goal

pub returns : goal.returns
returns c = right_success
