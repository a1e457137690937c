use Rattle.std.proofs.Common.{◌≡◌, drop}
use Rattle.icode.specs.Machine.{run}
use Rattle.schedules.specs.Turns.{turns_of}
use Rattle.par_machine.proofs.machine.Machine.run_list.Given as goal

abbrev pub invariant-loop-i : goal.invariant-loop-i
invariant-loop-i l = record {
  state : run l.self.code l.self.state (drop l.i (turns_of l.schedule l.procs))
      ≡ run l.fn.self.code l.fn.self.state (turns_of l.schedule l.procs);
  code : l.self.code ≡ l.fn.self.code;
}
