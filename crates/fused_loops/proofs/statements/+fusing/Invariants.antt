use Rattle.std.proofs.Common.{◌≡◌, ◌+◌, ◌*◌}
use Rattle.icode.specs.Plain.{plain_body}
use Rattle.fused_loops.specs.Fused.{fused_stmts}
use Rattle.fused_loops.proofs.statements.+fusing.Given as goal

abbrev pub decreases-fuse_in_last : goal.decreases-fuse_in_last
decreases-fuse_in_last l = 4 * l.loops + 3

abbrev pub decreases-fuse_into : goal.decreases-fuse_into
decreases-fuse_into l = 4 * l.loops + 2

abbrev pub decreases-fuse_stmts : goal.decreases-fuse_stmts
decreases-fuse_stmts l = 4 * l.loops + 1

abbrev pub decreases-fuse_stmt : goal.decreases-fuse_stmt
decreases-fuse_stmt l = 4 * l.loops

abbrev pub invariant-fuse_stmts-loop-stmt : goal.invariant-fuse_stmts-loop-stmt
invariant-fuse_stmts-loop-stmt l =
    fused_stmts l.loops (plain_body l.stmt-iterator.rest.items) (plain_body l.made.items)
    ≡ fused_stmts l.loops (plain_body l.fn.inside.items) (plain_body l.fn.made.items)
