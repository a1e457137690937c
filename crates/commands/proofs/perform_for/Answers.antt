use Rattle.std.proofs.Common.{◌-◌, sym, subst}
use Rattle.io_edge.specs.Feed.{to_come, limit}
use Rattle.spiral_words.specs.declared.RequestCommand.{RequestCommand}
use Rattle.spiral_words.specs.declared.RequestCommand.TheVariants as command
use Rattle.commands.specs.Equations.Requests.{work_for}
use Rattle.commands.specs.Input.Stage.{status_of}
use Rattle.commands.specs.Input.Outcomes.{SourceMeets}
use Rattle.commands.proofs.Inputs.OutcomeLemmas.{unread_meets}
use Rattle.commands.proofs.perform_for.Goals as goal

pub returns-in-Writes-clause-told : goal.returns-in-Writes-clause-told
returns-in-Writes-clause-told g c =
    let start = to_come c.args.feed.now (g.I.Source.told c.args.input.now) in
    let out = g.O.Sink.taken c.args.output.now in
    let written = g.O.Sink.taken c.write_text.new.output in
    let room = limit - c.args.feed.now.taken in
    let status = status_of c.write_text.result in
    subst (λ (k : RequestCommand). SourceMeets (work_for k c.args.request.now room) start start out written status) (sym c.in-Writes.is)
    (unread_meets (work_for (command.Writes c.in-Writes.document) c.args.request.now room) start out written status (λ bytes. c.write_text.ensures.told room bytes (g.I.Source.told c.args.input.now).ended))

pub returns-in-Judges-clause-told : goal.returns-in-Judges-clause-told
returns-in-Judges-clause-told g c =
    let start = to_come c.args.feed.now (g.I.Source.told c.args.input.now) in
    let end = to_come c.check.new.feed (g.I.Source.told c.check.new.input) in
    let out = g.O.Sink.taken c.args.output.now in
    let written = g.O.Sink.taken c.check.new.output in
    let room = limit - c.args.feed.now.taken in
    let status = status_of c.check.result in
    subst (λ (k : RequestCommand). SourceMeets (work_for k c.args.request.now room) start end out written status)
    (sym c.in-Judges.is) c.check.ensures.told
