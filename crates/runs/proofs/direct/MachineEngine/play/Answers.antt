use Rattle.std.proofs.Common.{◌∙◌, sym, ap}
use Rattle.schedules.specs.Turns.{turns_of}
use Rattle.runs.specs.Standing.{direct}
use Rattle.runs.proofs.TwoMachines.{walked_turns}
use Rattle.runs.proofs.direct.MachineEngine.play.Goals as goal

pub returns-in-Turns-clause-stands : goal.returns-in-Turns-clause-stands
returns-in-Turns-clause-stands c =
    let code = c.args.self.now.code in
    rw c.in-Turns.is (ap direct c.run_list.ensures.state ∙ sym (walked_turns code (turns_of c.in-Turns.schedule.now code.procs) c.args.self.now.state))
