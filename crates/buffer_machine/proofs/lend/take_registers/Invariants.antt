use Rattle.std.proofs.Common.{◌≡◌, ◌++◌, take, drop, length}
use Rattle.buffer_machine.proofs.lend.take_registers.Given as goal

abbrev pub invariant-loop-proc : goal.invariant-loop-proc
invariant-loop-proc l = record {
  same : length l.files ≡ length l.fn.files;
  so_far : l.files ≡ take l.proc l.fn.machine.state.registers ++ drop l.proc l.fn.files;
}
