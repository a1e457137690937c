use Rattle.std.proofs.Common.{length}
use Rattle.request_text.specs.OneToFour.{items}
use Rattle.request_text.proofs.judge.+products_within.Given as goal

abbrev pub decreases-products_within : goal.decreases-products_within
decreases-products_within l = length (items l.dimensions.now)
