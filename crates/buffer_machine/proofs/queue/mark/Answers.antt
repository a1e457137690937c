use Rattle.buffer_machine.proofs.Newest.{mark_step}
use Rattle.buffer_machine.proofs.queue.mark.Goals as goal

pub loop-word-preserved : goal.loop-word-preserved
loop-word-preserved c = mark_step c.loop-word.newest c.args.newest.now c.args.address c.loop-word.word c.args.number c.loop-word.invariant
