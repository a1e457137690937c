use Rattle.std.proofs.Common.{rules}
use Rattle.tree_model.specs.Breakdown.{breakdown_of}
use Rattle.smp_rewrite.proofs.PartsWalked.{left_walked, right_walked, walked_as}
use Rattle.smp_rewrite.proofs.walk.+walk.Goals as goal
use Rattle.kernel_gen.proofs.Sizes.{node_words}

pub add_tree-is_piece-requires : goal.add_tree-is_piece-requires
add_tree-is_piece-requires t c = node_words c.args.p.now (breakdown_of c.args.tree.now) c.requires

pub add_node-add_node-requires : goal.add_node-add_node-requires
add_node-add_node-requires t c = (search rules, c.requires)

pub add_node-add_node-requires-in-Compose : goal.add_node-add_node-requires-in-Compose
add_node-add_node-requires-in-Compose t c = (search rules, c.requires)

pub add_node-add_tree-requires : goal.add_node-add_tree-requires
add_node-add_tree-requires t c = (
  search rules,
  walked_as _ _ _ _ c.left_request-request.ensures c.left_part.ensures
      (left_walked c.args.p.now (breakdown_of c.args.tree.now) c.requires),
)

pub add_node-add_tree-requires-in-TensorRight : goal.add_node-add_tree-requires-in-TensorRight
add_node-add_tree-requires-in-TensorRight t c = (
  search rules,
  walked_as _ _ _ _ c.right_request-request.ensures c.right_part.ensures
      (right_walked c.args.p.now (breakdown_of c.args.tree.now) c.requires),
)
