use Rattle.spiral_main.proofs.OneText.{traces_one}
use Rattle.spiral_main.proofs.answers.trace_answers.Goals as goal

pub returns : goal.returns
returns c = traces_one
