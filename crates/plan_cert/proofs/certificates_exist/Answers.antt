use Rattle.plan_cert.proofs.SomeTable.{some_certificate}
use Rattle.plan_cert.proofs.certificates_exist.Goals as goal

pub returns : goal.returns
returns c = some_certificate
