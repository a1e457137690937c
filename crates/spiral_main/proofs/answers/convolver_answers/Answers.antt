use Rattle.spiral_main.proofs.OneText.{convolves_by_one}
use Rattle.spiral_main.proofs.answers.convolver_answers.Goals as goal

pub returns : goal.returns
returns c = convolves_by_one
