use Rattle.spiral_main.proofs.OneText.{code_prints_one}
use Rattle.spiral_main.proofs.answers.code_answers.Goals as goal

pub returns : goal.returns
returns c = code_prints_one
