use Rattle.buffer_machine.proofs.Lens.{AreLens}
use Rattle.buffer_machine.proofs.make.make_lens.Given as goal

abbrev pub invariant-loop-phase : goal.invariant-loop-phase
invariant-loop-phase l = AreLens l.program l.lens.items l.phase
