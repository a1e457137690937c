use Rattle.spiral_main.proofs.OneText.{compiles_one}
use Rattle.spiral_main.proofs.answers.compile_answers.Goals as goal

pub returns : goal.returns
returns c = compiles_one
