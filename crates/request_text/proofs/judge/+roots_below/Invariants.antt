use Rattle.std.proofs.Common.{length}
use Rattle.request_text.specs.OneToFour.{items}
use Rattle.request_text.proofs.judge.+roots_below.Given as goal

abbrev pub decreases-roots_below : goal.decreases-roots_below
decreases-roots_below l = length (items l.dimensions.now)
