use Rattle.par_machine.specs.Processors.{rewound}
use Rattle.par_machine.proofs.Each.{AreChanged}
use Rattle.par_machine.proofs.processor.rewind_all.Given as goal

abbrev pub invariant-loop-processor : goal.invariant-loop-processor
invariant-loop-processor l = AreChanged rewound l.processor-index l.fn.processors l.processors
