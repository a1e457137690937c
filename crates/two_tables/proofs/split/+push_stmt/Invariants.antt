use Rattle.std.proofs.Common.{◌≡◌, take, flat_map}
use Rattle.two_tables.specs.Factored.{factored_stmt}
use Rattle.two_tables.specs.Views.{plain_split, plain_stmts}
use Rattle.two_tables.proofs.split.+push_stmt.Given as goal

abbrev pub decreases-push_stmt : goal.decreases-push_stmt
decreases-push_stmt l = goal.size-push_stmt l

abbrev pub invariant-loop-inner : goal.invariant-loop-inner
invariant-loop-inner l = plain_stmts l.inside.items ≡ flat_map (factored_stmt (plain_split l.split)) (plain_stmts (take l.inner-index l.inner-items))
