use Rattle.generate.proofs.Existence.{plan_exists}
use Rattle.generate.proofs.plans_exist.Goals as goal

pub returns : goal.returns
returns c = plan_exists
