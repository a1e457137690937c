use Rattle.std.proofs.Common.{◌≡◌, take, flat_map}
use Rattle.two_tables.specs.Factored.{factored_stmt}
use Rattle.two_tables.specs.Views.{plain_split, plain_stmts}
use Rattle.two_tables.proofs.split.split_body.Given as goal

abbrev pub invariant-loop-stmt : goal.invariant-loop-stmt
invariant-loop-stmt l = plain_stmts l.made.items ≡ flat_map (factored_stmt (plain_split l.split)) (plain_stmts (take l.stmt-index l.body))
