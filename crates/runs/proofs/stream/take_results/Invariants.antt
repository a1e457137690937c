use Rattle.std.proofs.Common.{◌≡◌, take}
use Rattle.icode.specs.Machine.{words_at}
use Rattle.runs.specs.Standing.{memory_at}
use Rattle.runs.proofs.stream.take_results.Given as goal

-- the words so far are those of the machine's second array
abbrev pub invariant-loop-place : goal.invariant-loop-place
invariant-loop-place g l = record {
  words : take l.place l.vector ≡ words_at l.place (memory_at (g.E.Engine.stands l.machine)) l.first;
}
