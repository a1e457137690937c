use Rattle.spiral_main.proofs.Theorem.{program_is_right}
use Rattle.spiral_main.proofs.the_program_is_right.Goals as goal

pub returns : goal.returns
returns c = program_is_right
