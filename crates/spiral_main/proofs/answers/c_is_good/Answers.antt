use Rattle.spiral_main.specs.Good.{IsGoodFor}
use Rattle.spiral_main.proofs.Good.{c_prints}
use Rattle.spiral_main.proofs.answers.c_is_good.Goals as goal

pub returns : goal.returns
returns c = c_prints IsGoodFor (λ plan program lean. lean.0)
