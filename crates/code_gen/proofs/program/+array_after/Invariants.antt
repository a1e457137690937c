use Rattle.std.proofs.Common.{length}
use Rattle.code_gen.proofs.program.+array_after.Given as goal

abbrev pub decreases-array_after : goal.decreases-array_after
decreases-array_after l = length l.passes.now
