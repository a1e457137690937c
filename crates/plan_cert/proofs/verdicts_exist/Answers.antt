use Rattle.plan_cert.proofs.SomeVerdict.{some_verdict}
use Rattle.plan_cert.proofs.verdicts_exist.Goals as goal

pub returns : goal.returns
returns c = some_verdict
