use Rattle.std.proofs.Common.{Ok, Err, sym, ap, ◌∙◌}
use Rattle.request_text.specs.OneToFour.{spelt}
use Rattle.request_text.specs.Limits.{judged_conv}
use Rattle.request_text.proofs.ConvLine.{conv_line_judges}
use Rattle.request_text.proofs.Judged.{conv_answered_in_range, conv_judged_answers}
use Rattle.request_text.proofs.conv.read_conv.Goals as goal

pub overflow_sub-result : goal.overflow_sub-result
overflow_sub-result c = (conv_line_judges c.args.line.now (Err c.in-Err.stuck.left) c.in-Err.ensures).0

pub returns-in-Ok-clause-answer : goal.returns-in-Ok-clause-answer
returns-in-Ok-clause-answer c =
    conv_judged_answers c.args.line.now (spelt c.in-Ok.fields) c.checked_conv.result
    (conv_line_judges c.args.line.now (Ok (spelt c.in-Ok.fields)) c.in-Ok.ensures).0 (sym c.checked_conv.ensures)

pub returns-in-Ok-clause-in_range : goal.returns-in-Ok-clause-in_range
returns-in-Ok-clause-in_range c =
    conv_answered_in_range c.args.line.now c.checked_conv.result
    (conv_judged_answers c.args.line.now (spelt c.in-Ok.fields) c.checked_conv.result
    (conv_line_judges c.args.line.now (Ok (spelt c.in-Ok.fields)) c.in-Ok.ensures).0 (sym c.checked_conv.ensures))

pub returns-in-Ok-clause-only : goal.returns-in-Ok-clause-only
returns-in-Ok-clause-only c = λ r l.
    c.checked_conv.ensures ∙ ap judged_conv
    (sym ((conv_line_judges c.args.line.now (Ok (spelt c.in-Ok.fields)) c.in-Ok.ensures).1 r l))

pub returns-in-Err-clause-answer : goal.returns-in-Err-clause-answer
returns-in-Err-clause-answer c = (conv_line_judges c.args.line.now (Err c.in-Err.stuck.left) c.in-Err.ensures).1

pub returns-in-Err-clause-only : goal.returns-in-Err-clause-only
returns-in-Err-clause-only c = λ r l. absurd
    ((conv_line_judges c.args.line.now (Err c.in-Err.stuck.left) c.in-Err.ensures).1.nothing r l)
