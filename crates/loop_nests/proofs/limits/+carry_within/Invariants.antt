use Rattle.std.specs.Prelude.{length}
use Rattle.loop_nests.proofs.limits.+carry_within.Given as goal

abbrev pub decreases-carry_within : goal.decreases-carry_within
decreases-carry_within l = length l.functions.now
