use Rattle.std.proofs.Common.{rules}
use Rattle.loop_nests.proofs.limits.rooms.remainders.Goals as goal

pub returns-clause-affine : goal.returns-clause-affine
returns-clause-affine c = c.scale_and_add.ensures.affine c.args.counts.now (search rules) (search rules)
