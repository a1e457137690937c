use Rattle.spiral_main.proofs.OneText.{c_prints_one}
use Rattle.spiral_main.proofs.answers.c_answers.Goals as goal

pub returns : goal.returns
returns c = c_prints_one
