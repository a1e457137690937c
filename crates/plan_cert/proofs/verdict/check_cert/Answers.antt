use Rattle.std.proofs.Common.{IfSome, Option, subst}
use Rattle.serde_json.specs.View.{view}
use Rattle.serde_json.specs.declared.value.Value.{Value}
use Rattle.plan_cert.specs.Document.{IsJson}
use Rattle.plan_cert.specs.Verdict.{IsWholeVerdict}
use Rattle.plan_cert.proofs.OneVerdict.{verdict_of_json}
use Rattle.plan_cert.proofs.verdict.check_cert.Goals as goal

pub returns-clause-verdict : goal.returns-clause-verdict
returns-clause-verdict c =
    verdict_of_json (IsWholeVerdict c.args.c.now c.args.c.now.dimensions) c.args.text.now
    (view c.in-Some.value) c.in_ok-verdict.verdict
    (subst (λ (o : Option Value). IfSome o (λ v. IsJson c.args.text.now (view v))) c.in-Some.is c.in_ok-value.ensures.some)
    c.in_ok-verdict.ensures.verdict
