use Rattle.std.proofs.Common.{◌≡◌, ◌+◌, ◌*◌}
use Rattle.operators.specs.Operator.{on_blocks}
use Rattle.spl_ast.specs.Formula.{parts_of}
use Rattle.spl_ast.specs.Meaning.{apply}
use Rattle.spl_ast.proofs.plain.+apply.Given as goal

-- the blocks so far
abbrev pub invariant-blocks_times-loop-i : goal.invariant-blocks_times-loop-i
invariant-blocks_times-loop-i l = l.out.items ≡ on_blocks l.i l.size (apply l.m l.a) l.x

-- a formula comes before its columns, and its columns before its blocks
abbrev pub decreases-times : goal.decreases-times
decreases-times l = 3 * parts_of l.f.now

abbrev pub decreases-blocks_times : goal.decreases-blocks_times
decreases-blocks_times l = 3 * parts_of l.a.now + 1

abbrev pub decreases-columns_times : goal.decreases-columns_times
decreases-columns_times l = 3 * parts_of l.a.now + 2
