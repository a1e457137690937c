use Rattle.spiral_main.specs.Good.{IsGoodFor}
use Rattle.spiral_main.proofs.Good.{code_prints}
use Rattle.spiral_main.proofs.answers.code_is_good.Goals as goal

pub returns : goal.returns
returns c = code_prints IsGoodFor (λ plan program lean. lean.0)
