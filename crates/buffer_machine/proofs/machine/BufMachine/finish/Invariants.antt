use Rattle.std.proofs.Common.{◌≡◌, length}
use Rattle.icode.specs.Buffers.{buffered_completion, buffered_finished}
use Rattle.buffer_machine.proofs.machine.BufMachine.finish.Given as goal

abbrev pub invariant-loop-event : goal.invariant-loop-event
invariant-loop-event l = record {
  state : buffered_finished l.self.code l.self.state ≡ buffered_finished l.fn.self.code l.fn.self.state;
  code : l.self.code ≡ l.fn.self.code;
}

abbrev pub decreases-loop-event : goal.decreases-loop-event
decreases-loop-event l = length (buffered_completion l.self.code l.self.state)
