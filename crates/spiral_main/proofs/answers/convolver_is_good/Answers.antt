use Rattle.spiral_main.proofs.Good.{good_convolver}
use Rattle.spiral_main.proofs.answers.convolver_is_good.Goals as goal

pub returns : goal.returns
returns c = good_convolver
