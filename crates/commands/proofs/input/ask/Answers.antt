use Rattle.std.proofs.Common.{refl, sym, ◌∙◌}
use Rattle.std.proofs.lemmas.Result.{err_from_is_err_and}
use Rattle.io_edge.specs.Told.{IsOver}
use Rattle.io_edge.specs.Feed.{to_come}
use Rattle.commands.specs.Input.Asking.{spelt}
use Rattle.commands.specs.Input.Commands.{procs_named}
use Rattle.commands.specs.Input.Stage.{◌>>=◌}
use Rattle.commands.specs.Equations.Orders.{turned}
use Rattle.commands.proofs.Inputs.AskLemmas.{asked_line_fault, asked_request_fault, asked_turn_fault}
use Rattle.commands.proofs.Inputs.AskLemmas.{asked_request}
use Rattle.commands.proofs.input.ask.Goals as goal

pub returns-in_err-count-clause-told : goal.returns-in_err-count-clause-told
returns-in_err-count-clause-told g c =
    let answer = c.in_err-count.ensures.answer in
    let p = err_from_is_err_and c.from_residual.result c.from_residual.ensures.1 in
    rw (p.1, p.2) (asked_line_fault (λ text. spelt text >>= turned (procs_named c.args.command.now)) _ _ c.read_line.new.feed.taken answer.0 c.read_line.new.buffer
    (IsOver (to_come c.read_line.new.feed (g.I.Source.told c.read_line.new.source))) c.in_err-count.field-0.0
    answer.1 answer.2)

pub returns-in_err-request-clause-told : goal.returns-in_err-request-clause-told
returns-in_err-request-clause-told g c =
    let answer = c.in_ok-count.ensures.answer in
    let p = err_from_is_err_and c.from_residual-in_err-request.result c.from_residual-in_err-request.ensures.1 in
    rw (p.1, p.2) (asked_request_fault spelt (procs_named c.args.command.now) _ _ c.read_line.new.feed.taken answer.0 c.read_line.new.buffer c.in_ok-count.count c.in_err-request.field-0.0
    answer.1 answer.2 (c.in_err-request.field-0.0, c.in_err-request.ensures.answer, refl))

pub returns-in_err-check_turns-clause-told : goal.returns-in_err-check_turns-clause-told
returns-in_err-check_turns-clause-told g c =
    let answer = c.in_ok-count.ensures.answer in
    let first = c.in_err-check_turns.ensures.first in
    let p = err_from_is_err_and c.from_residual-in_err-check_turns.result c.from_residual-in_err-check_turns.ensures.1 in
    rw (p.1, p.2, first.2) (asked_turn_fault spelt (procs_named c.args.command.now) _ _ c.read_line.new.feed.taken answer.0 c.read_line.new.buffer c.in_ok-count.count c.in_ok-request.request first.0
    answer.1 answer.2 c.in_ok-request.ensures.answer (sym c.stranger.ensures ∙ first.1))

pub returns-clause-told : goal.returns-clause-told
returns-clause-told g c =
    let answer = c.in_ok-count.ensures.answer in
    asked_request spelt (procs_named c.args.command.now) _ _ c.read_line.new.feed.taken answer.0 c.read_line.new.buffer c.in_ok-count.count c.in_ok-request.request
    answer.1 answer.2 c.in_ok-request.ensures.answer (sym c.stranger.ensures ∙ c.in_ok-check_turns.ensures.none)
