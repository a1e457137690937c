use Rattle.std.proofs.Common.{◌-◌}
use Rattle.std.proofs.lemmas.Result.{err_from_is_err_and}
use Rattle.io_edge.specs.Feed.{limit}
use Rattle.commands.specs.Equations.Orders.{chosen}
use Rattle.commands.specs.Equations.Run.{run_work}
use Rattle.commands.specs.Input.Orders.{procs_in}
use Rattle.commands.specs.Input.Stage.{status_of}
use Rattle.commands.proofs.RunLemmas.{no_stranger, run_told}
use Rattle.commands.proofs.Inputs.StageLemmas.{stage_refused}
use Rattle.commands.proofs.data.run.Goals as goal

pub stream-requires-clause-turns : goal.stream-requires-clause-turns
stream-requires-clause-turns g c = no_stranger (procs_in c.args.order.now) c.args.request.now c.in_ok-program.program c.requires.in_range c.in_ok-program.ensures.program c.requires.turns

pub returns-in_err-program-clause-told : goal.returns-in_err-program-clause-told
returns-in_err-program-clause-told g c =
    let p = err_from_is_err_and c.from_residual.result c.from_residual.ensures.1 in
    rw (p.1, p.2) (stage_refused (chosen c.args.request.now) run_work (limit - c.args.feed.now.taken) _ _ c.in_err-program.field-0.0
    c.in_err-program.ensures.refused c.in_err-program.ensures.refusal)

pub returns-clause-told : goal.returns-clause-told
returns-clause-told g c =
    run_told c.args.request.now c.in_ok-program.program c.new.result c.args.order.now (limit - c.args.feed.now.taken)
    _ _
    _ _ (status_of c.stream.result)
    c.requires.in_range c.in_ok-program.ensures.program c.requires.turns c.new.ensures.items c.stream.ensures.told
