use Rattle.two_tables.proofs.Law.{factored_leaves_the_same}
use Rattle.two_tables.proofs.tables.factored_leaves_the_same.Goals as goal

pub returns : goal.returns
returns c = factored_leaves_the_same
