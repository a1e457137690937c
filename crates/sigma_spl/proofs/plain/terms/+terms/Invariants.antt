use Rattle.std.proofs.Common.{◌≡◌, ◌+◌, ◌*◌, length}
use Rattle.operators.specs.Operator.{on_blocks}
use Rattle.sigma_spl.specs.Views.{plain_term}
use Rattle.sigma_spl.specs.Plain.Copies.{copy_weight, part_on, weight}
use Rattle.sigma_spl.proofs.plain.terms.+terms.Given as goal

-- the blocks so far
abbrev pub invariant-in_blocks-loop-i : goal.invariant-in_blocks-loop-i
invariant-in_blocks-loop-i l = l.out.items ≡ on_blocks l.i l.size (part_on l.m l.path (plain_term l.t)) l.x

-- a term comes before its copies under a path, columns before blocks, both before the rest of the path, and that before one copy
abbrev pub decreases-times : goal.decreases-times
decreases-times l = weight (plain_term l.t.now)

abbrev pub decreases-copy_times : goal.decreases-copy_times
decreases-copy_times l = copy_weight (plain_term l.t.now) + 1

abbrev pub decreases-under : goal.decreases-under
decreases-under l = 3 * length l.path.now + copy_weight (plain_term l.t.now) + 2

abbrev pub decreases-in_blocks : goal.decreases-in_blocks
decreases-in_blocks l = 3 * length l.path.now + copy_weight (plain_term l.t.now) + 3

abbrev pub decreases-in_columns : goal.decreases-in_columns
decreases-in_columns l = 3 * length l.path.now + copy_weight (plain_term l.t.now) + 4
