use Rattle.std.proofs.Common.{◌≡◌, ◌*◌, vec_len}
use Rattle.kernel_gen.specs.Making.{rows_make}
use Rattle.kernel_gen.specs.Kernel.{trees_make}
use Rattle.kernel_gen.specs.Writing.{Wrote}
use Rattle.kernel_gen.proofs.writer.Writer.+node.Given as goal
use Rattle.tree_model.specs.Breakdown.{breakdown_of}
use Rattle.tree_model.specs.Whole.{rooted_of}

-- the rows so far
abbrev pub invariant-put_node_in_rows-loop-i : goal.invariant-put_node_in_rows-loop-i
invariant-put_node_in_rows-loop-i l =
    Wrote l.initial.self l.self (rows_make l.i l.grid.columns (λ _. trees_make l.m (rooted_of l.p (breakdown_of l.tree)))) l.ins l.outs.items
    × (vec_len l.outs ≡ l.i * l.grid.columns)
