use Rattle.std.proofs.Common.{◌≡◌, drop}
use Rattle.icode.specs.Buffers.{buffered_run}
use Rattle.buffer_machine.specs.Listed.{events_of}
use Rattle.buffer_machine.proofs.machine.BufMachine.run_events.Given as goal

abbrev pub invariant-loop-place : goal.invariant-loop-place
invariant-loop-place l = record {
  state : buffered_run l.self.code l.self.state (drop l.place (events_of l.events l.procs))
      ≡ buffered_run l.fn.self.code l.fn.self.state (events_of l.events l.procs);
  code : l.self.code ≡ l.fn.self.code;
}
