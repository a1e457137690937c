use Rattle.spiral_main.specs.Good.{IsLeanFor}
use Rattle.spiral_main.proofs.Good.{c_prints}
use Rattle.spiral_main.proofs.answers.c_is_lean.Goals as goal

pub returns : goal.returns
returns c = c_prints IsLeanFor (λ plan program lean. lean)
