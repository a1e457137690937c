use Rattle.std.proofs.Common.{◌≡◌, replicate}
use Rattle.icode.specs.Machine.{with_words}
use Rattle.buffer_machine.proofs.queue.mark.Given as goal

abbrev pub invariant-loop-word : goal.invariant-loop-word
invariant-loop-word l = l.newest ≡ with_words l.fn.newest l.address (replicate l.word l.number)
