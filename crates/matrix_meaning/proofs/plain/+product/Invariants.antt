use Rattle.std.proofs.Common.{length}
use Rattle.matrix_meaning.proofs.plain.+product.Given as goal

abbrev pub decreases-product : goal.decreases-product
decreases-product l = length l.sizes.now
