use Rattle.std.proofs.Common.{◌*◌, ◌∙◌, refl, rules}
use Rattle.std.proofs.Math.Nat.{mul_comm}
use Rattle.operators.proofs.Lists.{length-list_below}
use Rattle.spl_ast.specs.Formula.{size_of}
use Rattle.spl_ast.specs.Meaning.{apply}
use Rattle.spl_ast.proofs.Blocks.{blocks_more, block_inside, columns_from_turns, turned_vector}
use Rattle.spl_ast.proofs.plain.+apply.Goals as goal

pub columns_times-blocks_times-requires : goal.columns_times-blocks_times-requires
columns_times-blocks_times-requires t c = (
  search rules,
  (
    search rules,
    turned_vector c.args.m.now (size_of c.args.a.now) c.args.count c.args.x.now c.deref.result.now c.requires.vector
        (c.deref.ensures.value ∙ (rw c.rows-size.ensures.value at c.in_ok-columns.ensures)),
  ),
)

pub columns_times-turned-requires-2-clause-long : goal.columns_times-turned-requires-2-clause-long
columns_times-turned-requires-2-clause-long t c =
    rw (c.deref-2.ensures.value, c.in_ok-parts.ensures, c.rows-size.ensures.value)
    (length-list_below (c.args.count * size_of c.args.a.now) _ ∙ mul_comm c.args.count (size_of c.args.a.now))

pub columns_times-returns : goal.columns_times-returns
columns_times-returns t c =
    columns_from_turns (size_of c.args.a.now) c.args.count (apply c.args.m.now c.args.a.now) c.args.x.now c.deref.result.now c.deref-2.result.now _
    (c.deref.ensures.value ∙ (rw c.rows-size.ensures.value at c.in_ok-columns.ensures))
    (c.deref-2.ensures.value ∙ c.in_ok-parts.ensures)
    (rw c.rows-size.ensures.value at c.in_ok-y.ensures)

pub blocks_times-loop-i-preserved : goal.blocks_times-loop-i-preserved
blocks_times-loop-i-preserved t c =
    c.in_ok-extend_from_slice.ensures.items
    ∙ blocks_more c.args.m.now c.loop-i.i c.rows-size.result _ _ c.args.a.now c.args.x.now _ _ c.rows-size.ensures.shaped c.rows-size.ensures.value refl refl
    (block_inside c.args.count (size_of c.args.a.now) c.rows-size.result c.loop-i.i c.args.x.now c.loop-i-test.true c.rows-size.ensures.value c.requires.vector.size)
    c.loop-i.invariant
    (c.deref.ensures.value ∙ c.in_ok-part.ensures)
