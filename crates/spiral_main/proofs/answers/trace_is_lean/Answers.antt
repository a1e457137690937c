use Rattle.spiral_main.specs.Good.{IsLeanFor}
use Rattle.spiral_main.proofs.Good.{trace_prints}
use Rattle.spiral_main.proofs.answers.trace_is_lean.Goals as goal

pub returns : goal.returns
returns c = trace_prints IsLeanFor (λ plan program lean. lean)
