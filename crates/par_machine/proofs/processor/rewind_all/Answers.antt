use Rattle.std.proofs.Common.{arith}
use Rattle.par_machine.specs.Processors.{rewound}
use Rattle.par_machine.proofs.Each.{one_more}
use Rattle.par_machine.proofs.processor.rewind_all.Goals as goal

pub loop-processor-preserved : goal.loop-processor-preserved
loop-processor-preserved c =
    one_more rewound c.loop-processor.processor-index c.args.processors.now c.loop-processor.processors c.processor-item.result c.rewind.new.self (omega arith) c.processor-item.is c.rewind.ensures c.loop-processor.invariant
