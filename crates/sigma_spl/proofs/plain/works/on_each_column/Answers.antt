use Rattle.std.proofs.Common.{◌*◌, ◌∙◌}
use Rattle.std.proofs.Math.Nat.{mul_comm}
use Rattle.operators.proofs.Lists.{length-list_below}
use Rattle.sigma_spl.specs.Plain.Copies.{alone}
use Rattle.tree_model.specs.Trees.{trees_on, trees_size}
use Rattle.spl_ast.proofs.Blocks.{columns_from_turns, turned_vector}
use Rattle.sigma_spl.proofs.plain.works.on_each_column.Goals as goal

pub on_each_row-requires-clause-vector : goal.on_each_row-requires-clause-vector
on_each_row-requires-clause-vector c =
    turned_vector c.args.m.now (trees_size (alone c.args.tree.now)) c.args.count c.args.x.now c.deref.result.now c.requires.vector
    (c.deref.ensures.value ∙ c.in_ok-columns.ensures)

pub turned-requires-2-clause-long : goal.turned-requires-2-clause-long
turned-requires-2-clause-long c =
    let d = trees_size (alone c.args.tree.now) in
    rw (c.deref-2.ensures.value, c.in_ok-parts.ensures)
    (length-list_below (c.args.count * d) _ ∙ mul_comm c.args.count d)

pub returns : goal.returns
returns c =
    let tree = alone c.args.tree.now in
    columns_from_turns (trees_size tree) c.args.count (trees_on c.args.m.now tree) c.args.x.now c.deref.result.now c.deref-2.result.now _
    (c.deref.ensures.value ∙ c.in_ok-columns.ensures)
    (c.deref-2.ensures.value ∙ c.in_ok-parts.ensures)
    c.in_ok-y.ensures
