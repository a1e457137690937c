use Rattle.std.proofs.Common.{◌≤◌, ◌+◌, ◌-◌, arith, length, refl, rules}
use Rattle.std.proofs.lemmas.Result.{err_from_is_err_and}
use Rattle.std.proofs.KnownBytes.{Appends-nil}
use Rattle.io_edge.specs.Feed.{limit}
use Rattle.plan_cert.specs.declared.verdict.Verdict.TheVariants as verdict
use Rattle.spiral_words.specs.Statuses.Fault.{status_of_generate}
use Rattle.commands.proofs.CheckLemmas.{check_barred, check_unread, found_of, check_judged, check_cut}
use Rattle.commands.proofs.DocumentLemmas.{generate_refusal}
use Rattle.commands.proofs.Inputs.StatusLemmas.{rest_usage, refusal_ends}
use Rattle.commands.proofs.Inputs.OutcomeLemmas.{told_nothing}
use Rattle.commands.proofs.check.check.Goals as goal

pub returns-in_err-admit-clause-told : goal.returns-in_err-admit-clause-told
returns-in_err-admit-clause-told g c =
    let fault = c.in_err-admit.field-0.0 in
    let p = err_from_is_err_and c.from_residual.result c.from_residual.ensures.1 in
    rw (p.1, p.2) (check_barred c.args.request.now (limit - c.args.feed.now.taken) _ _ fault
    c.in_err-admit.ensures.barred)

pub returns-in_err-text-clause-told : goal.returns-in_err-text-clause-told
returns-in_err-text-clause-told g c =
    let answer = c.in_err-text.ensures.answer in
    let p = err_from_is_err_and c.from_residual-in_err-text.result c.from_residual-in_err-text.ensures.1 in
    rw (p.1, p.2) (check_unread c.args.request.now (limit - c.args.feed.now.taken) _ _ _ answer.0 c.in_err-text.field-0.0
    (omega (arith, c.requires.line))
    c.in_ok-admit.ensures.admitted answer.1 answer.2)

pub returns-in_err-write_least-in-Least-clause-told : goal.returns-in_err-write_least-in-Least-clause-told
returns-in_err-write_least-in-Least-clause-told g c =
    let p = err_from_is_err_and c.from_residual-in_err-write_least-in-Least.result c.from_residual-in_err-write_least-in-Least.ensures.1 in
    rw (p.1, p.2) (check_cut c.args.request.now (limit - c.args.feed.now.taken) _ _ _ _ c.in-Least.cost (omega (arith, c.requires.line)) c.in_ok-admit.ensures.admitted
    (found_of _ c.new.result _ _ c.in_ok-text.text c.deref.result.now _ c.in_ok-cost.field-0 c.in_ok-text.ensures.answer
    c.new.ensures c.deref.ensures.value c.in-Least.is c.in_ok-cost.ensures.verdict) c.in_err-write_least-in-Least.ensures.bytes)

pub returns-in-Least-clause-told : goal.returns-in-Least-clause-told
returns-in-Least-clause-told g c =
    check_judged c.args.request.now (limit - c.args.feed.now.taken) _ _ _ _ (verdict.Least c.in-Least.cost)
    (omega (arith, c.requires.line)) c.in_ok-admit.ensures.admitted
    (found_of _ c.new.result _ _ c.in_ok-text.text c.deref.result.now _ c.in_ok-cost.field-0 c.in_ok-text.ensures.answer
    c.new.ensures c.deref.ensures.value c.in-Least.is c.in_ok-cost.ensures.verdict) c.in_ok-write_least-in-Least.ensures.bytes

pub returns-in-Unread-clause-told : goal.returns-in-Unread-clause-told
returns-in-Unread-clause-told g c =
    let out = g.O.Sink.taken c.args.output.now in
    check_judged c.args.request.now (limit - c.args.feed.now.taken) _ _ out out verdict.Unread
    (omega (arith, c.requires.line)) c.in_ok-admit.ensures.admitted
    (found_of _ c.new.result _ _ c.in_ok-text.text c.deref.result.now _ c.in_ok-cost.field-0 c.in_ok-text.ensures.answer
    c.new.ensures c.deref.ensures.value c.in-Unread.is c.in_ok-cost.ensures.verdict) (Appends-nil out)

pub returns-clause-told : goal.returns-clause-told
returns-clause-told g c =
    let out = g.O.Sink.taken c.args.output.now in
    check_judged c.args.request.now (limit - c.args.feed.now.taken) _ _ out out (verdict.Wrong c.in-Wrong.size c.in-Wrong.given c.in-Wrong.found)
    (omega (arith, c.requires.line)) c.in_ok-admit.ensures.admitted
    (found_of _ c.new.result _ _ c.in_ok-text.text c.deref.result.now _ c.in_ok-cost.field-0 c.in_ok-text.ensures.answer
    c.new.ensures c.deref.ensures.value c.in-Wrong.is c.in_ok-cost.ensures.verdict) (Appends-nil out)

pub returns-in_err-admit-clause-ends : goal.returns-in_err-admit-clause-ends
returns-in_err-admit-clause-ends g c =
    let read = g.I.Source.faults c.args.input.now in
    let fault = c.in_err-admit.field-0.0 in
    let p = err_from_is_err_and c.from_residual.result c.from_residual.ensures.1 in
    rw (p.1, p.2) (refusal_ends (status_of_generate fault) c.args.feed.now.held read read _ _ refl (generate_refusal fault))

pub returns-in_err-text-clause-ends : goal.returns-in_err-text-clause-ends
returns-in_err-text-clause-ends g c =
    let p = err_from_is_err_and c.from_residual-in_err-text.result c.from_residual-in_err-text.ensures.1 in
    rw (p.1, p.2) (record { empty = search rules; usage = rest_usage c.in_err-text.field-0.0; read = search rules; write = search rules; memory = search rules })

pub returns-in_err-cost-clause-told : goal.returns-in_err-cost-clause-told
returns-in_err-cost-clause-told g c =
    let answer = c.in_ok-text.ensures.answer in
    let p = err_from_is_err_and c.from_residual-in_err-cost.result c.from_residual-in_err-cost.ensures.1 in
    let few : length answer.0 ≤ limit - c.args.feed.now.taken + 1 = omega (arith, answer.2.2, c.requires.line) in
    rw (p.1, p.2) (told_nothing _ _ _ _ answer.0 answer.1 few)
