use Rattle.std.proofs.Common.{length}
use Rattle.matrix_meaning.proofs.plain.+entry_from.Given as goal

abbrev pub decreases-entry_from : goal.decreases-entry_from
decreases-entry_from l = length l.sizes.now
