use Rattle.icode.specs.Buffers.{overlaid}
use Rattle.buffer_machine.proofs.Windows.{load_step}
use Rattle.buffer_machine.proofs.queue.Queue.load.Goals as goal

pub loop-lane-preserved : goal.loop-lane-preserved
loop-lane-preserved c =
    load_step c.loop-lane.registers c.args.registers.now (overlaid c.args.memory.now c.args.self.now.waiting) c.args.place c.args.address c.loop-lane.lane _ c.seen.ensures c.loop-lane.invariant
