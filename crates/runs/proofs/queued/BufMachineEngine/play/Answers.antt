use Rattle.std.proofs.Common.{◌∙◌, sym, ap}
use Rattle.buffer_machine.specs.Listed.{events_of}
use Rattle.runs.specs.Standing.{queued}
use Rattle.runs.proofs.TwoMachines.{walked_events}
use Rattle.runs.proofs.queued.BufMachineEngine.play.Goals as goal

pub returns-clause-stands : goal.returns-clause-stands
returns-clause-stands c =
    let code = c.args.self.now.code in
    ap queued c.run_events.ensures.state ∙ sym (walked_events code (events_of c.args.events code.procs) c.args.self.now.state)
