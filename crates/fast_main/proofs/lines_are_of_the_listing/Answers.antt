use Rattle.fast_main.proofs.OneLane.{lines_of_the_listing}
use Rattle.fast_main.proofs.lines_are_of_the_listing.Goals as goal

pub returns : goal.returns
returns c = lines_of_the_listing
