use Rattle.spiral_main.specs.Good.{IsLeanFor}
use Rattle.spiral_main.proofs.Good.{code_prints}
use Rattle.spiral_main.proofs.answers.code_is_lean.Goals as goal

pub returns : goal.returns
returns c = code_prints IsLeanFor (λ plan program lean. lean)
