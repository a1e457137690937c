use Rattle.std.proofs.Common.{sym, ◌∙◌}
use Rattle.tree_model.specs.Breakdown.{breakdown_of}
use Rattle.tree_model.proofs.RootedTrees.{rooted_size}
use Rattle.code_gen.proofs.KernelCodes.{node_code_is}
use Rattle.code_gen.proofs.kernels.node_code.Goals as goal

pub returns-clause-inputs : goal.returns-clause-inputs
returns-clause-inputs c = c.in_ok-made.ensures.inputs ∙ sym (rooted_size c.args.p.now (breakdown_of c.args.tree.now))

pub returns-clause-code : goal.returns-clause-code
returns-clause-code c = c.in_ok-made.ensures.code ∙ node_code_is c.args.p.now (breakdown_of c.args.tree.now) c.requires.kind
