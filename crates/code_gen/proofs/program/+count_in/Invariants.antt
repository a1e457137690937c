use Rattle.std.proofs.Common.{length}
use Rattle.code_gen.proofs.program.+count_in.Given as goal

abbrev pub decreases-count_in : goal.decreases-count_in
decreases-count_in l = length l.phases.now
