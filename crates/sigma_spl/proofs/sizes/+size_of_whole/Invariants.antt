use Rattle.std.specs.Prelude.{length}
use Rattle.sigma_spl.proofs.sizes.+size_of_whole.Given as goal

abbrev pub decreases-size_of_whole : goal.decreases-size_of_whole
decreases-size_of_whole l = length l.path.now
