use Rattle.std.proofs.Common.{◌∙◌, sym, ap}
use Rattle.runs.specs.Standing.{direct}
use Rattle.runs.proofs.TwoMachines.{finished_turns}
use Rattle.runs.proofs.direct.MachineEngine.complete.Goals as goal

pub returns-clause-stands : goal.returns-clause-stands
returns-clause-stands c = ap direct c.finish.ensures.state ∙ sym (finished_turns c.args.self.now.code c.args.self.now.state)
