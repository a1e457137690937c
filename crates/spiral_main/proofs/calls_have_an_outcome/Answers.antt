use Rattle.spiral_main.proofs.SomeOutcome.{some_outcome}
use Rattle.spiral_main.proofs.calls_have_an_outcome.Goals as goal

pub returns : goal.returns
returns c = some_outcome
