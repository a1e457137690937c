use Rattle.par_machine.specs.Processors.{as_new}
use Rattle.par_machine.proofs.Each.{AreChanged}
use Rattle.par_machine.proofs.processor.reset_all.Given as goal

abbrev pub invariant-loop-processor : goal.invariant-loop-processor
invariant-loop-processor l = AreChanged as_new l.processor-index l.fn.processors l.processors
