-- The law of tables in two factors.
use Rattle.std.proofs.Common.{length}
use Rattle.two_tables.specs.Laws.{FactoredLeavesTheSame}
use Rattle.two_tables.proofs.Programs.{from_table}

pub factored_leaves_the_same : FactoredLeavesTheSame
factored_leaves_the_same least p = from_table least (length p.tables) 0 p
