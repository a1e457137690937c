use Rattle.std.proofs.Common.{true, false}
use Rattle.std.proofs.lemmas.Result.{err_from_is_err_and}
use Rattle.schedules.specs.Turns.{named}
use Rattle.commands.specs.Convolutions.Convolved.{work_by_list}
use Rattle.commands.specs.Equations.Convolutions.{conv_spelt}
use Rattle.commands.specs.Equations.Convolve.{outcomes_by_list}
use Rattle.commands.specs.Equations.Front.{line}
use Rattle.commands.specs.Equations.Orders.{turned}
use Rattle.commands.specs.Input.Stage.{◌>>=◌, status_of}
use Rattle.commands.proofs.ConvolutionLemmas.ConvolvedLemmas.{by_line, list_within}
use Rattle.commands.proofs.Inputs.FrontLemmas.{front_refused, front_told}
use Rattle.commands.proofs.Inputs.LineLemmas.{line_is_front}
use Rattle.commands.proofs.Inputs.OutcomeLemmas.{all_few}
use Rattle.commands.proofs.Inputs.Within.{told_within}
use Rattle.commands.proofs.convolutions.convolve.Goals as goal

pub returns-in_err-request-clause-told : goal.returns-in_err-request-clause-told
returns-in_err-request-clause-told g c =
    let schedule = c.args.schedule.now in
    let code = c.args.code in
    let fault = c.in_err-request.field-0.0 in
    let p = err_from_is_err_and c.from_residual.result c.from_residual.ensures.1 in
    rw (p.1, p.2) (told_within (by_line schedule code) (outcomes_by_list schedule code) _ _ _ _ fault (list_within schedule code)
    (front_refused (line 256) (λ text. conv_spelt text >>= turned (named schedule)) (work_by_list code) _ _ _ c.ask_conv.new.feed.taken fault
    c.in_err-request.ensures.told c.in_err-request.ensures.ends.others.write))

pub returns-then-code-clause-told : goal.returns-then-code-clause-told
returns-then-code-clause-told g c =
    let schedule = c.args.schedule.now in
    let status = status_of c.print_convolver.result in
    rw c.if-code.true (told_within (by_line schedule true) (outcomes_by_list schedule true) _ _ _ _ status (list_within schedule true)
    (front_told (line 256) (line_is_front 256) (λ text. conv_spelt text >>= turned (named schedule)) (work_by_list true) _ _ _ c.ask_conv.new.feed.taken c.in_ok-request.request
    _ _ status c.in_ok-request.ensures.told (all_few _) c.print_convolver.ensures.told))

pub returns-else-code-clause-told : goal.returns-else-code-clause-told
returns-else-code-clause-told g c =
    let schedule = c.args.schedule.now in
    let status = status_of c.run_convolver.result in
    rw c.if-code.false (told_within (by_line schedule false) (outcomes_by_list schedule false) _ _ _ _ status (list_within schedule false)
    (front_told (line 256) (line_is_front 256) (λ text. conv_spelt text >>= turned (named schedule)) (work_by_list false) _ _ _ c.ask_conv.new.feed.taken c.in_ok-request.request
    _ _ status c.in_ok-request.ensures.told (all_few _) c.run_convolver.ensures.told))
