use Rattle.std.proofs.Common.{length}
use Rattle.code_gen.proofs.factors.+inner_place.Given as goal

abbrev pub decreases-inner_place : goal.decreases-inner_place
decreases-inner_place l = length l.path.now
