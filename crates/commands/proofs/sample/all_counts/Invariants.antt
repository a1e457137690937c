use Rattle.std.proofs.Common.{◌≡◌}
use Rattle.operators.specs.Sum.{sum_below}
use Rattle.icode.specs.Machine.{counts_so_far}
use Rattle.commands.proofs.sample.all_counts.Given as goal

-- what the processors so far have executed
abbrev pub invariant-loop-proc : goal.invariant-loop-proc
invariant-loop-proc l = record {
  operations : l.operations ≡ sum_below l.proc (λ q. (counts_so_far l.fn.machine.code l.fn.machine.state q).operations);
  muls : l.muls ≡ sum_below l.proc (λ q. (counts_so_far l.fn.machine.code l.fn.machine.state q).muls);
  loads : l.loads ≡ sum_below l.proc (λ q. (counts_so_far l.fn.machine.code l.fn.machine.state q).loads);
  stores : l.stores ≡ sum_below l.proc (λ q. (counts_so_far l.fn.machine.code l.fn.machine.state q).stores);
}
