use Rattle.plan_cert.proofs.Documents.{counted_members}
use Rattle.plan_cert.proofs.document.has_members.Goals as goal

pub returns-in-Some : goal.returns-in-Some
returns-in-Some c = counted_members _ c.in-Some.members.now.entries _ _ c.len.ensures.len c.in-Some.ensures
