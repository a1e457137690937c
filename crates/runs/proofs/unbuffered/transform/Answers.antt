use Rattle.std.proofs.Common.{◌≡◌, ◌∙◌, ap}
use Rattle.schedules.specs.Turns.{turns_of}
use Rattle.icode.specs.Machine.{runs}
use Rattle.runs.specs.Standing.{direct}
use Rattle.runs.proofs.StreamLemmas.{whole_run, results_left}
use Rattle.runs.proofs.unbuffered.transform.Goals as goal

pub returns-clause-state : goal.returns-clause-state
returns-clause-state c =
    whole_run c.args.schedule.now c.args.machine.now.code c.put.new.self.code c.run_list.new.self.code c.args.vector.now c.put.new.self.state c.run_list.new.self.state c.finish.new.self.state
    c.put.ensures.code c.put.ensures.state c.run_list.ensures.code c.run_list.ensures.state c.finish.ensures.state

pub returns-clause-vector : goal.returns-clause-vector
returns-clause-vector c =
    let code = c.args.machine.now.code in
    let state : c.finish.new.self.state ≡ runs code c.args.vector.now (turns_of c.args.schedule.now code.procs) =
    whole_run c.args.schedule.now code c.put.new.self.code c.run_list.new.self.code c.args.vector.now c.put.new.self.state c.run_list.new.self.state c.finish.new.self.state
    c.put.ensures.code c.put.ensures.state c.run_list.ensures.code c.run_list.ensures.state c.finish.ensures.state in
    c.take_results.ensures
    ∙ results_left code c.finish.new.self.code (direct (runs code c.args.vector.now (turns_of c.args.schedule.now code.procs))) (direct c.finish.new.self.state)
    (c.finish.ensures.code ∙ c.run_list.ensures.code ∙ c.put.ensures.code) (ap direct state)
