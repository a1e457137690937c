use Rattle.std.proofs.lemmas.Result.{err_from_is_err_and}
use Rattle.commands.specs.Equations.Front.{line}
use Rattle.commands.specs.Equations.Orders.{turned}
use Rattle.commands.specs.Equations.Requests.{outcomes_by_request, work_for}
use Rattle.commands.specs.Input.Asking.{spelt}
use Rattle.commands.specs.Input.Commands.{procs_named}
use Rattle.commands.specs.Input.Stage.{◌>>=◌, status_of}
use Rattle.commands.proofs.Performs.{by_line, performs_within, request_within}
use Rattle.commands.proofs.Inputs.FrontLemmas.{front_refused, front_told}
use Rattle.commands.proofs.Inputs.LineLemmas.{line_is_front}
use Rattle.commands.proofs.Inputs.Within.{told_within}
use Rattle.commands.proofs.perform.Goals as goal

pub returns-in_err-request-clause-told : goal.returns-in_err-request-clause-told
returns-in_err-request-clause-told g c =
    let command = c.args.command.now in
    let fault = c.in_err-request.field-0.0 in
    let p = err_from_is_err_and c.from_residual.result c.from_residual.ensures.1 in
    rw (p.1, p.2) (told_within (by_line command) (outcomes_by_request command) _ _ _ _ fault (request_within command)
    (front_refused (line 256) (λ text. spelt text >>= turned (procs_named command)) (work_for command) _ _ _ c.ask.new.feed.taken fault
    c.in_err-request.ensures.told c.in_err-request.ensures.ends.others.write))

pub returns-clause-told : goal.returns-clause-told
returns-clause-told g c =
    let command = c.args.command.now in
    let status = status_of c.perform_for.result in
    told_within (by_line command) (outcomes_by_request command) _ _ _ _ status (request_within command)
    (front_told (line 256) (line_is_front 256) (λ text. spelt text >>= turned (procs_named command)) (work_for command) _ _ _ c.ask.new.feed.taken c.in_ok-request.request
    _ _ status c.in_ok-request.ensures.told (performs_within command c.in_ok-request.request _)
    c.perform_for.ensures.told)
