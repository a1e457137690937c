use Rattle.std.proofs.Common.{◌∙◌, sym, ap}
use Rattle.runs.specs.Standing.{queued}
use Rattle.runs.proofs.TwoMachines.{finished_events}
use Rattle.runs.proofs.queued.BufMachineEngine.complete.Goals as goal

pub returns-clause-stands : goal.returns-clause-stands
returns-clause-stands c = ap queued c.finish.ensures.state ∙ sym (finished_events c.args.self.now.code c.args.self.now.state)
