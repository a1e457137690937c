use Rattle.std.specs.Prelude.{length}
use Rattle.sigma_spl.proofs.plain.parts.+item_in_copy.Given as goal

abbrev pub decreases-item_in_copy : goal.decreases-item_in_copy
decreases-item_in_copy l = length l.path.now
