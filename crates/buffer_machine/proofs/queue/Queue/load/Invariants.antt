use Rattle.std.proofs.Common.{◌≡◌}
use Rattle.icode.specs.Buffers.{overlaid}
use Rattle.icode.specs.Machine.{with_words, words_at}
use Rattle.buffer_machine.proofs.queue.Queue.load.Given as goal

abbrev pub invariant-loop-lane : goal.invariant-loop-lane
invariant-loop-lane l = l.registers ≡ with_words l.fn.registers l.place (words_at l.lane (overlaid l.memory l.self.waiting) l.address)
