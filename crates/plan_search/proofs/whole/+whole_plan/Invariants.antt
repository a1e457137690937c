use Rattle.std.proofs.Common.{length}
use Rattle.matrix_meaning.specs.Dimensions.{dims_of}
use Rattle.plan_search.proofs.whole.+whole_plan.Given as goal

-- how many dimensions there are
abbrev pub decreases-whole_plan : goal.decreases-whole_plan
decreases-whole_plan l = length (dims_of l.c.now)
