use Rattle.std.proofs.Common.{arith}
use Rattle.par_machine.specs.Processors.{as_new}
use Rattle.par_machine.proofs.Each.{one_more}
use Rattle.par_machine.proofs.processor.reset_all.Goals as goal

pub loop-processor-preserved : goal.loop-processor-preserved
loop-processor-preserved c =
    one_more as_new c.loop-processor.processor-index c.args.processors.now c.loop-processor.processors c.processor-item.result c.reset.new.self (omega arith) c.processor-item.is c.reset.ensures c.loop-processor.invariant
