use Rattle.std.proofs.Common.{◌≡◌}
use Rattle.worked_machines.proofs.machines.take_turns.Given as goal

abbrev pub invariant-loop-turn : goal.invariant-loop-turn
invariant-loop-turn l = l.machine.code ≡ l.fn.machine.code
