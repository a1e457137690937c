use Rattle.fast_main.proofs.Existence.{some_outcome}
use Rattle.fast_main.proofs.calls_have_an_outcome.Goals as goal

pub returns : goal.returns
returns c = some_outcome
