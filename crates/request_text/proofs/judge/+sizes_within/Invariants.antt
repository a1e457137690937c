use Rattle.std.proofs.Common.{length}
use Rattle.request_text.specs.OneToFour.{items}
use Rattle.request_text.proofs.judge.+sizes_within.Given as goal

abbrev pub decreases-sizes_within : goal.decreases-sizes_within
decreases-sizes_within l = length (items l.dimensions.now)
