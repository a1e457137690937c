use Rattle.std.proofs.Common.{subst}
use Rattle.spl_ast.specs.Meaning.{IsVector}
use Rattle.spl_ast.specs.Shape.{IsSize}
use Rattle.tree_model.specs.Breakdown.{breakdown_of}
use Rattle.tree_model.proofs.RootedTrees.{rooted_size, rooted_words}
use Rattle.sigma_spl.proofs.plain.works.worked.Goals as goal

pub node_times-requires-clause-words : goal.node_times-requires-clause-words
node_times-requires-clause-words c =
    rooted_words c.in-Kernel.ctx (breakdown_of c.in-Kernel.tree) (rw c.in-Kernel.is at c.requires.words)

pub node_times-requires-clause-size : goal.node_times-requires-clause-size
node_times-requires-clause-size c =
    subst IsSize (rooted_size c.in-Kernel.ctx (breakdown_of c.in-Kernel.tree)) (rw c.in-Kernel.is at c.requires.size)

pub node_times-requires-clause-vector : goal.node_times-requires-clause-vector
node_times-requires-clause-vector c =
    subst (λ n. IsVector c.args.m.now n c.args.x.now) (rooted_size c.in-Kernel.ctx (breakdown_of c.in-Kernel.tree))
    (rw c.in-Kernel.is at c.requires.vector)
