use Rattle.std.proofs.Common.{Ok, Err, sym, ap, ◌∙◌}
use Rattle.request_text.specs.OneToFour.{spelt}
use Rattle.request_text.specs.Limits.{judged}
use Rattle.request_text.proofs.Line.{line_judges}
use Rattle.request_text.proofs.Judged.{answered_in_range, judged_answers}
use Rattle.request_text.proofs.request.read_request.Goals as goal

pub overflow_sub-result : goal.overflow_sub-result
overflow_sub-result c = (line_judges c.args.text.now (Err c.in-Err.stuck.left) c.in-Err.ensures).0

pub returns-in-Ok-clause-answer : goal.returns-in-Ok-clause-answer
returns-in-Ok-clause-answer c =
    judged_answers c.args.text.now (spelt c.in-Ok.fields) c.checked.result
    (line_judges c.args.text.now (Ok (spelt c.in-Ok.fields)) c.in-Ok.ensures).0 (sym c.checked.ensures.value)

pub returns-in-Ok-clause-in_range : goal.returns-in-Ok-clause-in_range
returns-in-Ok-clause-in_range c =
    answered_in_range c.args.text.now c.checked.result
    (judged_answers c.args.text.now (spelt c.in-Ok.fields) c.checked.result
    (line_judges c.args.text.now (Ok (spelt c.in-Ok.fields)) c.in-Ok.ensures).0 (sym c.checked.ensures.value))

pub returns-in-Ok-clause-only : goal.returns-in-Ok-clause-only
returns-in-Ok-clause-only c = λ r l.
    c.checked.ensures.value ∙ ap judged
    (sym ((line_judges c.args.text.now (Ok (spelt c.in-Ok.fields)) c.in-Ok.ensures).1 r l))

pub returns-in-Err-clause-answer : goal.returns-in-Err-clause-answer
returns-in-Err-clause-answer c = (line_judges c.args.text.now (Err c.in-Err.stuck.left) c.in-Err.ensures).1

pub returns-in-Err-clause-only : goal.returns-in-Err-clause-only
returns-in-Err-clause-only c = λ r l. absurd
    ((line_judges c.args.text.now (Err c.in-Err.stuck.left) c.in-Err.ensures).1.nothing r l)
