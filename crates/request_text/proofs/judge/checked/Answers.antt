use Rattle.std.proofs.Common.{sym}
use Rattle.std.proofs.lemmas.Result.{err_from_is_err_and}
use Rattle.request_text.proofs.Spelt.{spelt_faulty, spelt_passed, spelt_some}
use Rattle.request_text.proofs.judge.checked.Goals as goal

pub limited-requires-clause-size : goal.limited-requires-clause-size
limited-requires-clause-size c =
    spelt_some c.args.fields.now c.in_ok-size.size c.request_of-request.result (sym c.in_ok-size.ensures)
    c.request_of-request.ensures

pub returns-in_err-limited-clause-value : goal.returns-in_err-limited-clause-value
returns-in_err-limited-clause-value c =
    let p = err_from_is_err_and c.from_residual-in_err-limited.result c.from_residual-in_err-limited.ensures.1 in
    let q = p.1 in
    let r = p.2 in
    let e = spelt_faulty c.args.fields.now c.in_ok-size.size c.request_of-request.result c.in_err-limited.field-0.0
    (sym c.in_ok-size.ensures) c.request_of-request.ensures (sym c.in_err-limited.ensures) in
    cc

pub returns-clause-value : goal.returns-clause-value
returns-clause-value c = spelt_passed c.args.fields.now c.in_ok-size.size c.request_of-request.result
    (sym c.in_ok-size.ensures) c.request_of-request.ensures (sym c.in_ok-limited.ensures)

pub returns-clause-size : goal.returns-clause-size
returns-clause-size c = spelt_some c.args.fields.now c.in_ok-size.size c.request_of-request.result
    (sym c.in_ok-size.ensures) c.request_of-request.ensures
