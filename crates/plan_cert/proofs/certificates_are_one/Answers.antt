use Rattle.plan_cert.proofs.OneText.{one_certificate}
use Rattle.plan_cert.proofs.certificates_are_one.Goals as goal

pub returns : goal.returns
returns c = one_certificate
