use Rattle.std.proofs.Common.{◌-◌}
use Rattle.std.proofs.lemmas.Result.{err_from_is_err_and}
use Rattle.io_edge.specs.Feed.{limit}
use Rattle.commands.specs.Equations.Orders.{chosen}
use Rattle.commands.specs.Equations.Trace.{trace_work}
use Rattle.commands.specs.Input.Orders.{procs_in}
use Rattle.commands.specs.Input.Stage.{status_of}
use Rattle.commands.proofs.RunLemmas.{no_stranger, trace_told}
use Rattle.commands.proofs.Inputs.StageLemmas.{stage_refused}
use Rattle.commands.proofs.Inputs.OutcomeLemmas.{unread_nothing}
use Rattle.commands.proofs.data.trace.Goals as goal

pub stream-requires-clause-turns : goal.stream-requires-clause-turns
stream-requires-clause-turns g c = no_stranger (procs_in c.args.order.now) c.args.request.now c.in_ok-program.program c.requires.in_range c.in_ok-program.ensures.program c.requires.turns

pub returns-in_err-program-clause-told : goal.returns-in_err-program-clause-told
returns-in_err-program-clause-told g c =
    let p = err_from_is_err_and c.from_residual.result c.from_residual.ensures.1 in
    rw (p.1, p.2) (stage_refused (chosen c.args.request.now) (trace_work c.args.order.now) (limit - c.args.feed.now.taken) _ _ c.in_err-program.field-0.0
    c.in_err-program.ensures.refused c.in_err-program.ensures.refusal)

pub returns-in_err-front-clause-told : goal.returns-in_err-front-clause-told
returns-in_err-front-clause-told g c =
    let p = err_from_is_err_and c.from_residual-in_err-front.result c.from_residual-in_err-front.ensures.1 in
    rw (p.1, p.2) (unread_nothing _ _ _)

pub returns-clause-told : goal.returns-clause-told
returns-clause-told g c =
    trace_told c.args.request.now c.in_ok-program.program c.in_ok-front.front c.args.order.now (limit - c.args.feed.now.taken)
    _ _
    _ _ (status_of c.stream.result)
    c.requires.in_range c.in_ok-program.ensures.program c.in_ok-front.ensures.text c.stream.ensures.told
