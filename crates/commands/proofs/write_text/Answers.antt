use Rattle.std.proofs.lemmas.Result.{err_from_is_err_and}
use Rattle.commands.specs.Equations.Orders.{chosen}
use Rattle.commands.specs.Equations.Requests.{document_work}
use Rattle.commands.proofs.DocumentLemmas.{document_meets, document_cut}
use Rattle.commands.proofs.Inputs.StageLemmas.{stage_meets_nothing}
use Rattle.commands.proofs.write_text.Goals as goal

pub returns-in_err-write_all-clause-told : goal.returns-in_err-write_all-clause-told
returns-in_err-write_all-clause-told g c =
    λ room bytes ended.
    let p = err_from_is_err_and c.from_residual-in_err-write_all.result c.from_residual-in_err-write_all.ensures.1 in
    let wrote = rw c.deref.ensures.value at c.in_err-write_all.ensures.bytes in
    rw (p.1, p.2) (document_cut c.args.document.now c.args.request.now room bytes ended _ _ c.in_ok-text.text.items c.in_ok-text.ensures.text wrote)

pub returns-clause-told : goal.returns-clause-told
returns-clause-told g c =
    λ room bytes ended.
    let wrote = rw c.deref.ensures.value at c.in_ok-write_all.ensures.bytes in
    document_meets c.args.document.now c.args.request.now room bytes bytes ended _ _ c.in_ok-text.text.items c.in_ok-text.ensures.text wrote

pub returns-in_err-text-clause-told : goal.returns-in_err-text-clause-told
returns-in_err-text-clause-told g c =
    λ room bytes ended.
    let p = err_from_is_err_and c.from_residual.result c.from_residual.ensures.1 in
    rw (p.1, p.2) (stage_meets_nothing (chosen c.args.request.now) (document_work c.args.document.now) room bytes bytes ended _ c.in_err-text.field-0.0
    c.in_err-text.ensures.refused c.in_err-text.ensures.refusal)
