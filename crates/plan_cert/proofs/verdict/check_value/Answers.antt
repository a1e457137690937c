use Rattle.std.proofs.Common.{◌≡◌, Global, Some, Vec, ap, option_map, subst, sym, ◌∙◌}
use Rattle.matrix_meaning.specs.declared.Request.{Request}
use Rattle.serde_json.specs.View.{view}
use Rattle.tree_model.specs.Chosen.{IsWholeLeast}
use Rattle.plan_cert.specs.declared.certificate.Row.{Row}
use Rattle.plan_cert.specs.Certificate.{HasRows}
use Rattle.plan_cert.specs.Document.{document_rows}
use Rattle.plan_cert.proofs.Judged.{least_verdict, least_whole}
use Rattle.plan_cert.proofs.verdict.check_value.Goals as goal

pub returns-in-Ok-clause-verdict : goal.returns-in-Ok-clause-verdict
returns-in-Ok-clause-verdict c =
    let d = view c.args.value.now in
    let reads : document_rows c.args.c.now.size c.args.c.now.weight d ≡ Some c.in-Some.rows.items =
    ap (λ (r : Request). document_rows r.size r.weight d) (sym c.request-request.ensures.value)
    ∙ sym c.in_ok-rows.ensures
    ∙ ap (option_map (λ (rows : Vec Row Global). rows.items)) c.in-Some.is in
    least_verdict c.args.c.now c.forward-forward.result d c.closing_cost.result c.deref-2.result.now
    c.forward-forward.ensures.value c.closing_cost.ensures.value
    (reads ∙ ap Some (sym c.deref-2.ensures.value)) c.in-Ok.cost
    (subst (HasRows c.forward-forward.result) (c.deref.ensures.value ∙ sym c.deref-2.ensures.value)
    (c.has_rows.ensures.0 c.if-not-has_rows.false))
    c.in-Ok.ensures.right c.in-Ok.ensures.cost

pub returns-in-Ok-clause-least : goal.returns-in-Ok-clause-least
returns-in-Ok-clause-least c = λ cost is.
    let same : c.in-Ok.cost ≡ cost = cc in
    subst (IsWholeLeast c.args.c.now) same
    (least_whole c.args.c.now c.forward-forward.result c.closing_cost.result c.forward-forward.ensures.value c.closing_cost.ensures.value
    c.in-Ok.cost c.requires c.in-Ok.ensures.least)
