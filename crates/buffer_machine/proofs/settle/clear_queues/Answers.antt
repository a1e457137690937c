use Rattle.std.proofs.Common.{ap, ◌∙◌, arith, length-set, sym}
use Rattle.buffer_machine.specs.Stand.{cleared}
use Rattle.buffer_machine.proofs.Loops.{map_step}
use Rattle.buffer_machine.proofs.settle.clear_queues.Goals as goal

pub loop-queue-preserved : goal.loop-queue-preserved
loop-queue-preserved c =
    let inv = c.loop-queue.invariant in
    record {
      same = length-set c.loop-queue.queues c.loop-queue.queue-index _ ∙ inv.same;
      so_far = map_step cleared c.args.queues.now c.loop-queue.queues c.loop-queue.queue-index c.queue-item.result c.clear.new.self (omega (arith, inv.same)) inv.so_far c.queue-item.is (c.clear.ensures ∙ ap cleared (sym c.queue-item.is));
    }
