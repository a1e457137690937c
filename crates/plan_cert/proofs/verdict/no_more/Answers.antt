use Rattle.std.proofs.Common.{sym, ◌∙◌}
use Rattle.plan_cert.proofs.Members.{too_many}
use Rattle.plan_cert.proofs.verdict.no_more.Goals as goal

pub returns-else-is_empty : goal.returns-else-is_empty
returns-else-is_empty c = too_many c.args.values.now (sym c.if-is_empty.false ∙ c.is_empty.ensures)
