use Rattle.generate.proofs.ConvExistence.{conv_plan_exists}
use Rattle.generate.proofs.conv_plans_exist.Goals as goal

pub returns : goal.returns
returns c = conv_plan_exists
