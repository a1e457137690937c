use Rattle.std.proofs.Common.{length}
use Rattle.code_gen.proofs.factors.+whole_size.Given as goal

abbrev pub decreases-whole_size : goal.decreases-whole_size
decreases-whole_size l = length l.path.now
