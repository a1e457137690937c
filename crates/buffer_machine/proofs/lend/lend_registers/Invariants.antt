use Rattle.std.proofs.Common.{◌≡◌, ◌++◌, take, drop}
use Rattle.buffer_machine.specs.Lent.{with_files}
use Rattle.buffer_machine.proofs.lend.lend_registers.Given as goal

abbrev pub invariant-loop-proc : goal.invariant-loop-proc
invariant-loop-proc l = record {
  state : l.machine.state ≡ with_files (take l.proc l.fn.files ++ drop l.proc l.fn.machine.state.registers)
      l.fn.machine.state;
  code : l.machine.code ≡ l.fn.machine.code;
}
