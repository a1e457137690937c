use Rattle.spiral_main.specs.Good.{IsGoodFor}
use Rattle.spiral_main.proofs.Good.{trace_prints}
use Rattle.spiral_main.proofs.answers.trace_is_good.Goals as goal

pub returns : goal.returns
returns c = trace_prints IsGoodFor (λ plan program lean. lean.0)
