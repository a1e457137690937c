use Rattle.tree_model.specs.Breakdown.{breakdown_of}
use Rattle.smp_rewrite.proofs.walk.node_work.Goals as goal
use Rattle.kernel_gen.proofs.Sizes.{node_words}

pub size-size-requires : goal.size-size-requires
size-size-requires c = node_words c.args.p.now (breakdown_of c.args.tree.now) c.requires
