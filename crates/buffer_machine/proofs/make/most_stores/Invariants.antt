use Rattle.buffer_machine.proofs.Lens.{IsMost}
use Rattle.buffer_machine.proofs.make.most_stores.Given as goal

abbrev pub invariant-loop-phase : goal.invariant-loop-phase
invariant-loop-phase l = IsMost l.program l.most l.phase
