use Rattle.runs.proofs.Settled.{completion_acts}
use Rattle.runs.proofs.laws.completions_act.Goals as goal

pub returns : goal.returns
returns c = completion_acts
