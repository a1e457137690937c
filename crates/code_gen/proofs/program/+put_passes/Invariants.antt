use Rattle.std.proofs.Common.{length}
use Rattle.code_gen.proofs.program.+put_passes.Given as goal

abbrev pub decreases-put_passes : goal.decreases-put_passes
decreases-put_passes l = length l.passes.now
