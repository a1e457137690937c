use Rattle.std.proofs.Common.{◌≡◌, ◌+◌, ◌*◌, take, length}
use Rattle.icode.specs.Machine.{transposed, with_words}
use Rattle.icode.proofs.effect.transpose.Given as goal

abbrev pub invariant-loop-row : goal.invariant-loop-row
invariant-loop-row l = record {
  same : length l.registers ≡ length l.fn.registers;
  so_far : l.registers ≡ with_words l.fn.registers (l.register * l.lanes)
      (take (l.row * l.lanes) (transposed l.lanes l.fn.registers l.source));
}

abbrev pub invariant-loop-lane : goal.invariant-loop-lane
invariant-loop-lane l = record {
  same : length l.registers ≡ length l.fn.registers;
  so_far : l.registers ≡ with_words l.fn.registers (l.register * l.lanes)
      (take (l.row * l.lanes + l.lane) (transposed l.lanes l.fn.registers l.source));
}
